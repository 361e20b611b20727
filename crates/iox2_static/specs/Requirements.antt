-- What an opener requires of a service's settings.
use Rattle.std.specs.Prelude.{ℕ, Bool, not, List, Option, nat_eq, nat_le, IsTrue}
use Rattle.std.specs.Bool.{beq}
use Rattle.std.specs.Duration.{as_nanos}
use Rattle.std.specs.List.{find, AllByRecursion}
use Rattle.std.specs.Option.{option_eq, option_map}
use lib.Chars.{codes}
use Rattle.std.specs.declared.time.Duration.{Duration}
use Rattle.iox2_static.specs.declared.static_config.setting.Requirement.{Requirement}
use Rattle.iox2_static.specs.declared.static_config.setting.Setting.{Setting}
use Rattle.iox2_static.specs.declared.static_config.setting.Setting.TheVariants as setting

-- the name of a setting
abbrev pub name_of : Setting → List ℕ
name_of setting.MaxSubscribers = codes "max_subscribers"
name_of setting.MaxPublishers = codes "max_publishers"
name_of setting.HistorySize = codes "history_size"
name_of setting.SubscriberMaxBufferSize = codes "subscriber_max_buffer_size"
name_of setting.SubscriberMaxBorrowedSamples = codes "subscriber_max_borrowed_samples"
name_of setting.EnableSafeOverflow = codes "enable_safe_overflow"
name_of setting.MaxNotifiers = codes "max_notifiers"
name_of setting.MaxListeners = codes "max_listeners"
name_of setting.EventIdMaxValue = codes "event_id_max_value"
name_of setting.Deadline = codes "deadline"
name_of setting.NotifierCreatedEvent = codes "notifier_created_event"
name_of setting.NotifierDroppedEvent = codes "notifier_dropped_event"
name_of setting.NotifierDeadEvent = codes "notifier_dead_event"
name_of setting.EnableSafeOverflowForRequests = codes "enable_safe_overflow_for_requests"
name_of setting.EnableSafeOverflowForResponses = codes "enable_safe_overflow_for_responses"
name_of setting.EnableFireAndForgetRequests = codes "enable_fire_and_forget_requests"
name_of setting.MaxActiveRequestsPerClient = codes "max_active_requests_per_client"
name_of setting.MaxLoanedRequests = codes "max_loaned_requests"
name_of setting.MaxResponseBufferSize = codes "max_response_buffer_size"
name_of setting.MaxServers = codes "max_servers"
name_of setting.MaxClients = codes "max_clients"
name_of setting.MaxBorrowedResponsesPerPendingResponse =
    codes "max_borrowed_responses_per_pending_response"
name_of setting.MaxReaders = codes "max_readers"
name_of setting.MaxWriters = codes "max_writers"
name_of setting.MaxNodes = codes "max_nodes"

-- for a number, of which the service has at least as many
abbrev pub at_least : Setting → ℕ → ℕ → Requirement
at_least setting has required = record { setting = setting; is_met = nat_le required has }

-- for a choice, which is the service's own
abbrev pub same_choice : Setting → Bool → Bool → Requirement
same_choice setting has required = record { setting = setting; is_met = beq has required }

-- for an event, which is the service's own, or of which there is none in both
abbrev pub same_event : Setting → Option ℕ → Option ℕ → Requirement
same_event setting has required =
    record { setting = setting; is_met = option_eq nat_eq has required }

-- two spans of time are of one length
abbrev pub is_as_long : Duration → Duration → Bool
is_as_long has required = nat_eq (as_nanos has) (as_nanos required)

-- for a span of time, which is the service's own, or of which there is none in both
abbrev pub same_duration : Setting → Option Duration → Option Duration → Requirement
same_duration setting has required =
    record { setting = setting; is_met = option_eq is_as_long has required }

-- the setting of the first requirement that is not met, if there is one
unfoldable pub first_unmet : List Requirement → Option Setting
first_unmet requirements =
    option_map (λ one. one.setting) (find (λ one. not one.is_met) requirements)

-- each requirement is met
unfoldable pub AreMet : List Requirement → Type 0
AreMet requirements = AllByRecursion (λ one. IsTrue one.is_met) requirements
