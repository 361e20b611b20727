-- The settings that services get where nothing else is said, as plain values.
use Rattle.std.specs.Prelude.{ℕ, ◌/◌, ◌%◌, true, false, Option, Some, None}
pub use Rattle.std.specs.Duration.{as_nanos}
pub use Rattle.std.specs.declared.time.Duration.{Duration}
use Rattle.iox2_config.specs.GlobalSettings.{GlobalSettings}
pub use Rattle.iox2_config.specs.declared.config.defaults.Blackboard.{Blackboard}
pub use Rattle.iox2_config.specs.declared.config.choices.AllocationStrategy.{AllocationStrategy}
use Rattle.iox2_config.specs.declared.config.choices.AllocationStrategy.TheVariants.{BestFit, PowerOfTwo, Static}
pub use Rattle.iox2_config.specs.declared.config.choices.BackpressureStrategy.{BackpressureStrategy}
use Rattle.iox2_config.specs.declared.config.choices.BackpressureStrategy.TheVariants.{RetryUntilDelivered, DiscardData}
pub use Rattle.iox2_config.specs.declared.config.defaults.Event.{Event}
use Rattle.iox2_config.specs.declared.config.global.Node.{Node}
pub use Rattle.iox2_config.specs.declared.config.defaults.PublishSubscribe.{PublishSubscribe}
pub use Rattle.iox2_config.specs.declared.config.defaults.RequestResonse.{RequestResonse}
use Rattle.iox2_config.specs.declared.config.global.Service.{Service}
pub use Rattle.iox2sd_common.specs.declared.settings.BlackboardSettings.{BlackboardSettings}
pub use Rattle.iox2sd_common.specs.declared.settings.EventSettings.{EventSettings}
use Rattle.iox2sd_common.specs.declared.settings.GlobalSettings.{GlobalSettings as PlainGlobal}
pub use Rattle.iox2sd_common.specs.declared.settings.OptionalDuration.{OptionalDuration}
pub use Rattle.iox2sd_common.specs.declared.settings.OptionalEventId.{OptionalEventId}
pub use Rattle.iox2sd_common.specs.declared.settings.PlainDuration.{PlainDuration}
pub use Rattle.iox2sd_common.specs.declared.settings.PublishSubscribeSettings.{PublishSubscribeSettings}
pub use Rattle.iox2sd_common.specs.declared.settings.RequestResponseSettings.{RequestResponseSettings}

-- the number of what a sender does where a receiver's buffer is full
abbrev pub backpressure_number : BackpressureStrategy → ℕ
backpressure_number RetryUntilDelivered = 0
backpressure_number DiscardData = 1

-- the number of how room grows
abbrev pub allocation_number : AllocationStrategy → ℕ
allocation_number BestFit = 0
allocation_number PowerOfTwo = 1
allocation_number Static = 2

-- a span of time in seconds and nanoseconds
abbrev pub c_span : Duration → PlainDuration
c_span d =
    record { seconds = as_nanos d / 1_000_000_000; nanoseconds = as_nanos d % 1_000_000_000 }

-- a span of time, if there is one
abbrev pub c_duration : Option Duration → OptionalDuration
c_duration (Some d) =
    record {
      seconds = as_nanos d / 1_000_000_000;
      nanoseconds = as_nanos d % 1_000_000_000;
      is_some = true;
    }
c_duration None = record { seconds = 0; nanoseconds = 0; is_some = false }

-- the number of an event, if there is one
abbrev pub c_event_id : Option ℕ → OptionalEventId
c_event_id (Some number) = record { number = number; is_some = true }
c_event_id None = record { number = 0; is_some = false }

-- the settings of a system beside its texts, of which these are parts
abbrev pub c_global_with : Duration → Service → Node → PlainGlobal
c_global_with timeout service node = record {
  creation_timeout = c_span timeout;
  cleanup_dead_nodes_on_open = service.cleanup_dead_nodes_on_open;
  cleanup_dead_nodes_on_creation = node.cleanup_dead_nodes_on_creation;
  cleanup_dead_nodes_on_destruction = node.cleanup_dead_nodes_on_destruction;
}

-- the settings of a system beside its texts
abbrev pub c_global : GlobalSettings → PlainGlobal
c_global s = c_global_with s.creation_timeout s.service s.node

-- the settings of a publish-subscribe service
abbrev pub c_publish_subscribe : PublishSubscribe → PublishSubscribeSettings
c_publish_subscribe s = record {
  max_subscribers = s.max_subscribers;
  max_publishers = s.max_publishers;
  max_nodes = s.max_nodes;
  subscriber_max_buffer_size = s.subscriber_max_buffer_size;
  subscriber_max_borrowed_samples = s.subscriber_max_borrowed_samples;
  publisher_max_loaned_samples = s.publisher_max_loaned_samples;
  publisher_history_size = s.publisher_history_size;
  subscriber_expired_connection_buffer = s.subscriber_expired_connection_buffer;
  backpressure_strategy = backpressure_number s.backpressure_strategy;
  publisher_allocation_strategy = allocation_number s.publisher_allocation_strategy;
  enable_safe_overflow = s.enable_safe_overflow;
}

-- the settings of an event service
abbrev pub c_event : Event → EventSettings
c_event s = record {
  max_listeners = s.max_listeners;
  max_notifiers = s.max_notifiers;
  max_nodes = s.max_nodes;
  event_id_max_value = s.event_id_max_value;
  deadline = c_duration s.deadline;
  notifier_created_event = c_event_id s.notifier_created_event;
  notifier_dropped_event = c_event_id s.notifier_dropped_event;
  notifier_dead_event = c_event_id s.notifier_dead_event;
}

-- the settings of a request-response service
abbrev pub c_request_response : RequestResonse → RequestResponseSettings
c_request_response s = record {
  max_active_requests_per_client = s.max_active_requests_per_client;
  max_response_buffer_size = s.max_response_buffer_size;
  max_servers = s.max_servers;
  max_clients = s.max_clients;
  max_nodes = s.max_nodes;
  max_borrowed_responses_per_pending_response = s.max_borrowed_responses_per_pending_response;
  max_loaned_requests = s.max_loaned_requests;
  server_max_loaned_responses_per_request = s.server_max_loaned_responses_per_request;
  client_expired_connection_buffer = s.client_expired_connection_buffer;
  server_expired_connection_buffer = s.server_expired_connection_buffer;
  client_backpressure_strategy = backpressure_number s.client_backpressure_strategy;
  server_backpressure_strategy = backpressure_number s.server_backpressure_strategy;
  client_allocation_strategy = allocation_number s.client_allocation_strategy;
  server_allocation_strategy = allocation_number s.server_allocation_strategy;
  enable_safe_overflow_for_requests = s.enable_safe_overflow_for_requests;
  enable_safe_overflow_for_responses = s.enable_safe_overflow_for_responses;
  enable_fire_and_forget_requests = s.enable_fire_and_forget_requests;
}

-- the settings of a blackboard service
abbrev pub c_blackboard : Blackboard → BlackboardSettings
c_blackboard s = record { max_readers = s.max_readers; max_nodes = s.max_nodes }
