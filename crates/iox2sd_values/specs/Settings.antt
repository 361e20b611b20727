-- Settings as plain values: those of a system where nothing else is said, whether those that a
-- caller filled are valid, how many nodes and ports a service with them can have at a time, and how
-- many chunks the data segment of a port needs.
use Rattle.std.specs.Prelude.{◌≡◌, List, Result, Ok, Err, ℕ, Option, Some, None, false}
use Rattle.iox2sd_values.specs.Prelude.{BlackboardSettings, EventSettings, Field, FieldAnswer, IsDefaultGlobal, PublishSubscribeSettings, RequestResponseSettings, blackboard_of, field_answer, no_field, CountAnswer, OfGiven, Returns, count_answer, c_global, PublishSubscribe, RequestResponse, default_details}
use Rattle.iox2sd_common.specs.declared.status.Status.TheVariants as status
use Rattle.iox2sd_common.specs.declared.settings.GlobalSettings.{GlobalSettings}
use Rattle.iox2sd_values.specs.declared.settings.BlackboardCapacities.{BlackboardCapacities}
use Rattle.iox2sd_values.specs.declared.settings.EventCapacities.{EventCapacities}
use Rattle.iox2sd_values.specs.declared.settings.PublishSubscribeCapacities.{PublishSubscribeCapacities}
use Rattle.iox2sd_values.specs.declared.settings.RequestResponseCapacities.{RequestResponseCapacities}
use Rattle.iox2_static.specs.Chunks.{ReportsGreatest}

-- the settings that a system has by default
abbrev pub ReportsGlobalDefaults : GlobalSettings → Type 0
ReportsGlobalDefaults answer = Returns c_global IsDefaultGlobal answer

-- the answer on what the reading gave
abbrev pub checked : {A : Type 0} → Result A Field → FieldAnswer
checked (Ok made) = no_field status.Done
checked (Err f) = field_answer f

-- the answer reports what reading the settings gives, where there are some
abbrev pub ChecksBy : {S A : Type 0} → (S → Result A Field → Type 0) → List S → FieldAnswer → Type 0
ChecksBy Reads settings answer =
    OfGiven (no_field status.Null) (λ s. Returns checked (Reads s)) settings answer

-- the capacities by some settings, or these where there are none
abbrev pub CapacitiesBy : {S C : Type 0} → (S → C) → C → List S → C → Type 0
CapacitiesBy capacities none settings answer =
    OfGiven none (λ s made. made ≡ capacities s) settings answer

-- of a publish-subscribe service
abbrev pub publish_subscribe_capacities : PublishSubscribeSettings → PublishSubscribeCapacities
publish_subscribe_capacities s = record {
  nodes = s.max_nodes;
  publishers = s.max_publishers;
  subscribers = s.max_subscribers;
}

-- of an event service
abbrev pub event_capacities : EventSettings → EventCapacities
event_capacities s = record {
  nodes = s.max_nodes;
  listeners = s.max_listeners;
  notifiers = s.max_notifiers;
}

-- of a request-response service
abbrev pub request_response_capacities : RequestResponseSettings → RequestResponseCapacities
request_response_capacities s = record {
  nodes = s.max_nodes;
  servers = s.max_servers;
  clients = s.max_clients;
}

-- of a blackboard service
abbrev pub blackboard_capacities : BlackboardSettings → BlackboardCapacities
blackboard_capacities s = record {
  nodes = s.max_nodes;
  readers = s.max_readers;
  writers =
      (blackboard_of (record { max_readers = s.max_readers; max_nodes = s.max_nodes })).max_writers;
}

-- the answer for a number of chunks, or for one that is too large
abbrev pub counted : Option ℕ → CountAnswer
counted (Some count) = count_answer status.Done count
counted None = count_answer status.TooLarge 0

-- the greatest number of chunks in use is returned, or that it is too large
abbrev pub Counts : List ℕ → CountAnswer → Type 0
Counts limits answer = Returns counted (ReportsGreatest limits) answer

-- a publish-subscribe service with these limits for subscribers, and nothing else given
abbrev pub publish_subscribe : ℕ → ℕ → ℕ → ℕ → PublishSubscribe
publish_subscribe subscribers buffer borrowed history = record {
  max_subscribers = subscribers;
  max_publishers = 0;
  max_nodes = 0;
  history_size = history;
  subscriber_max_buffer_size = buffer;
  subscriber_max_borrowed_samples = borrowed;
  enable_safe_overflow = false;
  message_type_details = default_details;
}

-- a request-response service with these limits, and nothing else given
abbrev pub request_response : ℕ → ℕ → ℕ → ℕ → ℕ → RequestResponse
request_response servers clients requests buffer borrowed = record {
  enable_safe_overflow_for_requests = false;
  enable_safe_overflow_for_responses = false;
  enable_fire_and_forget_requests = false;
  max_active_requests_per_client = requests;
  max_loaned_requests = 0;
  max_response_buffer_size = buffer;
  max_servers = servers;
  max_clients = clients;
  max_nodes = 0;
  max_borrowed_responses_per_pending_response = borrowed;
  request_message_type_details = default_details;
  response_message_type_details = default_details;
}
