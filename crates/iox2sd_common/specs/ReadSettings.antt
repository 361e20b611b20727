-- Settings that a caller filled, as the layer has them, or the first field that is invalid.
use Rattle.std.specs.Prelude.{◌≡◌, ℕ, ◌+◌, ◌*◌, ◌<◌, ◌≤◌, true, false, if◌then◌else◌, Option, Some, None, Result, Ok, Err}
use Rattle.iox2sd_common.specs.Settings.{AllocationStrategy, BackpressureStrategy, Blackboard, BlackboardSettings, Duration, Event, EventSettings, OptionalDuration, OptionalEventId, PlainDuration, PublishSubscribe, PublishSubscribeSettings, RequestResonse, RequestResponseSettings, allocation_number, as_nanos, backpressure_number, c_blackboard, c_publish_subscribe, c_request_response}
use Rattle.iox2sd_common.specs.Status.{OfNumber, code}
use Rattle.iox2sd_common.specs.declared.read_settings.Field.{Field}
use Rattle.iox2sd_common.specs.declared.read_settings.Field.TheVariants as field
use Rattle.iox2sd_common.specs.declared.read_settings.FieldAnswer.{FieldAnswer}
use Rattle.iox2sd_common.specs.declared.settings.GlobalSettings.{GlobalSettings}
use Rattle.iox2sd_common.specs.declared.status.Status.{Status}
use Rattle.iox2sd_common.specs.declared.status.Status.TheVariants as status

-- the number of a field
abbrev pub field_number : Field → ℕ
field_number field.BackpressureStrategy = 0
field_number field.PublisherAllocationStrategy = 1
field_number field.Deadline = 2
field_number field.ClientBackpressureStrategy = 3
field_number field.ServerBackpressureStrategy = 4
field_number field.ClientAllocationStrategy = 5
field_number field.ServerAllocationStrategy = 6
field_number field.CreationTimeout = 7

-- what is wrong with an invalid field
abbrev pub field_status : Field → Status
field_status field.Deadline = status.BadDuration
field_status field.CreationTimeout = status.BadDuration
field_status _ = status.UnknownStrategy

-- the answer on an invalid field
abbrev pub field_answer : Field → FieldAnswer
field_answer f = record { status = code (field_status f); field = field_number f; cause = 0 }

-- the answer of a status that speaks of no field
abbrev pub no_field : Status → FieldAnswer
no_field s = record { status = code s; field = 0; cause = 0 }

-- the strategy of a number
abbrev pub ReadsBackpressure : ℕ → Option BackpressureStrategy → Type 0
ReadsBackpressure number read = OfNumber backpressure_number number read

-- the same of how room grows
abbrev pub ReadsAllocation : ℕ → Option AllocationStrategy → Type 0
ReadsAllocation number read = OfNumber allocation_number number read

-- the number is that of a strategy
abbrev pub IsBackpressure : ℕ → Type 0
IsBackpressure number = (strategy : BackpressureStrategy) × ReadsBackpressure number (Some strategy)

abbrev pub IsAllocation : ℕ → Type 0
IsAllocation number = (strategy : AllocationStrategy) × ReadsAllocation number (Some strategy)

-- the span of time, where the nanoseconds are below a second
abbrev pub ReadsDuration : PlainDuration → Option Duration → Type 0
ReadsDuration given (Some d) =
    (given.nanoseconds < 1_000_000_000)
    × (as_nanos d ≡ given.seconds * 1_000_000_000 + given.nanoseconds)
ReadsDuration given None = 1_000_000_000 ≤ given.nanoseconds

-- the span of time beside the flag
abbrev pub span_of : OptionalDuration → PlainDuration
span_of given = record { seconds = given.seconds; nanoseconds = given.nanoseconds }

-- the deadline, if there is one: where the flag says that there is none, its numbers are ignored
abbrev pub ReadsDeadline : OptionalDuration → Result (Option Duration) Field → Type 0
ReadsDeadline given (Ok None) = given.is_some ≡ false
ReadsDeadline given (Ok (Some d)) =
    (given.is_some ≡ true) × ReadsDuration (span_of given) (Some d)
ReadsDeadline given (Err field.Deadline) =
    (given.is_some ≡ true) × ReadsDuration (span_of given) None
ReadsDeadline given (Err _) = ⊥

-- the number of an event, if there is one: where the flag says that there is none, it is ignored
abbrev pub given_event_id : OptionalEventId → Option ℕ
given_event_id given = if given.is_some then Some given.number else None

-- the settings of a publish-subscribe service
abbrev pub ReadsPublishSubscribe : PublishSubscribeSettings → Result PublishSubscribe Field → Type 0
ReadsPublishSubscribe s (Ok made) = c_publish_subscribe made ≡ s
ReadsPublishSubscribe s (Err field.BackpressureStrategy) =
    ReadsBackpressure s.backpressure_strategy None
ReadsPublishSubscribe s (Err field.PublisherAllocationStrategy) =
    IsBackpressure s.backpressure_strategy × ReadsAllocation s.publisher_allocation_strategy None
ReadsPublishSubscribe s (Err _) = ⊥

-- the settings of an event service as they were filled, of which these parts were read
pub record ReadsEventAs (s : EventSettings) (made : Event) : Type 0 where
  pub max_listeners : made.max_listeners ≡ s.max_listeners
  pub max_notifiers : made.max_notifiers ≡ s.max_notifiers
  pub max_nodes : made.max_nodes ≡ s.max_nodes
  pub event_id_max_value : made.event_id_max_value ≡ s.event_id_max_value
  pub deadline : ReadsDeadline s.deadline (Ok made.deadline)
  pub notifier_created_event :
      made.notifier_created_event ≡ given_event_id s.notifier_created_event
  pub notifier_dropped_event :
      made.notifier_dropped_event ≡ given_event_id s.notifier_dropped_event
  pub notifier_dead_event : made.notifier_dead_event ≡ given_event_id s.notifier_dead_event

-- the settings of an event service
abbrev pub ReadsEvent : EventSettings → Result Event Field → Type 0
ReadsEvent s (Ok made) = ReadsEventAs s made
ReadsEvent s (Err f) = ReadsDeadline s.deadline (Err f)

-- the settings of a request-response service: strategies are looked at in the order of the fields
abbrev pub ReadsRequestResponse : RequestResponseSettings → Result RequestResonse Field → Type 0
ReadsRequestResponse s (Ok made) = c_request_response made ≡ s
ReadsRequestResponse s (Err field.ClientBackpressureStrategy) =
    ReadsBackpressure s.client_backpressure_strategy None
ReadsRequestResponse s (Err field.ServerBackpressureStrategy) =
    IsBackpressure s.client_backpressure_strategy
    × ReadsBackpressure s.server_backpressure_strategy None
ReadsRequestResponse s (Err field.ClientAllocationStrategy) =
    IsBackpressure s.client_backpressure_strategy × IsBackpressure s.server_backpressure_strategy
    × ReadsAllocation s.client_allocation_strategy None
ReadsRequestResponse s (Err field.ServerAllocationStrategy) =
    IsBackpressure s.client_backpressure_strategy × IsBackpressure s.server_backpressure_strategy
    × IsAllocation s.client_allocation_strategy × ReadsAllocation s.server_allocation_strategy None
ReadsRequestResponse s (Err _) = ⊥

-- the settings of a blackboard service, which are always valid
abbrev pub ReadsBlackboard : BlackboardSettings → Result Blackboard Field → Type 0
ReadsBlackboard s (Ok made) = c_blackboard made ≡ s
ReadsBlackboard s (Err _) = ⊥

-- the settings of a system: its timeout
abbrev pub ReadsGlobal : GlobalSettings → Result Duration Field → Type 0
ReadsGlobal s (Ok timeout) = ReadsDuration s.creation_timeout (Some timeout)
ReadsGlobal s (Err field.CreationTimeout) = ReadsDuration s.creation_timeout None
ReadsGlobal s (Err _) = ⊥
