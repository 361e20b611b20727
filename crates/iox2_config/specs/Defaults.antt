-- The configuration that stands where nothing else is said.
use Rattle.std.specs.Prelude.{◌≡◌, ◌*◌, true, None}
use Rattle.std.specs.Duration.{as_nanos}
use lib.Chars.{codes}
use Rattle.iox2_config.specs.declared.config.global.Service.{Service}
use Rattle.iox2_config.specs.declared.config.global.Node.{Node}
use Rattle.iox2_config.specs.declared.config.Config.{Config}
use Rattle.iox2_config.specs.GlobalSettings.{GlobalSettings}
use Rattle.iox2_config.specs.declared.config.defaults.PublishSubscribe.{PublishSubscribe}
use Rattle.iox2_config.specs.declared.config.defaults.Event.{Event}
use Rattle.iox2_config.specs.declared.config.defaults.RequestResonse.{RequestResonse}
use Rattle.iox2_config.specs.declared.config.defaults.Blackboard.{Blackboard}
use Rattle.iox2_config.specs.declared.config.defaults.Defaults.{Defaults}
use Rattle.iox2_config.specs.declared.config.choices.BackpressureStrategy.TheVariants.{RetryUntilDelivered}
use Rattle.iox2_config.specs.declared.config.choices.AllocationStrategy.TheVariants.{Static}

-- where services' files lie, and how their names end
abbrev pub default_service : Service
default_service = record {
  directory = codes "services";
  data_segment_suffix = codes ".data";
  static_config_storage_suffix = codes ".service";
  dynamic_config_storage_suffix = codes ".dynamic";
  connection_suffix = codes ".connection";
  event_connection_suffix = codes ".event";
  blackboard_mgmt_suffix = codes ".blackboard_mgmt";
  blackboard_data_suffix = codes ".blackboard_data";
  cleanup_dead_nodes_on_open = true;
}

-- where nodes' files lie, and how their names end
abbrev pub default_node : Node
default_node = record {
  directory = codes "nodes";
  monitor_suffix = codes ".node_monitor";
  static_config_suffix = codes ".details";
  service_tag_suffix = codes ".service_tag";
  port_tag_suffix = codes ".port_tag";
  global_mgmt_suffix = codes ".global_mgmt";
  cleanup_dead_nodes_on_creation = true;
  cleanup_dead_nodes_on_destruction = true;
}

-- what a whole system has; a duration is known by its nanoseconds
pub record IsDefaultGlobal (global : GlobalSettings) : Type 0 where
  pub root_path : global.root_path ≡ codes "/tmp/iceoryx2/"
  pub prefix : global.prefix ≡ codes "iox2_"
  pub service : global.service ≡ default_service
  pub node : global.node ≡ default_node
  pub creation_timeout : as_nanos global.creation_timeout ≡ 500 * 1_000_000

-- what a publish-subscribe service gets
abbrev pub default_publish_subscribe : PublishSubscribe
default_publish_subscribe = record {
  max_subscribers = 8;
  max_publishers = 2;
  max_nodes = 20;
  subscriber_max_buffer_size = 2;
  subscriber_max_borrowed_samples = 2;
  publisher_max_loaned_samples = 2;
  publisher_history_size = 0;
  enable_safe_overflow = true;
  backpressure_strategy = RetryUntilDelivered;
  subscriber_expired_connection_buffer = 128;
  publisher_allocation_strategy = Static;
}

-- what an event service gets
abbrev pub default_event : Event
default_event = record {
  max_listeners = 16;
  max_notifiers = 16;
  max_nodes = 36;
  event_id_max_value = 255;
  deadline = None;
  notifier_created_event = None;
  notifier_dropped_event = None;
  notifier_dead_event = None;
}

-- what a request-response service gets
abbrev pub default_request_response : RequestResonse
default_request_response = record {
  enable_safe_overflow_for_requests = true;
  enable_safe_overflow_for_responses = true;
  max_active_requests_per_client = 4;
  max_response_buffer_size = 2;
  max_servers = 2;
  max_clients = 8;
  max_nodes = 20;
  max_borrowed_responses_per_pending_response = 2;
  max_loaned_requests = 2;
  server_max_loaned_responses_per_request = 2;
  client_backpressure_strategy = RetryUntilDelivered;
  server_backpressure_strategy = RetryUntilDelivered;
  client_expired_connection_buffer = 128;
  server_expired_connection_buffer = 128;
  enable_fire_and_forget_requests = true;
  client_allocation_strategy = Static;
  server_allocation_strategy = Static;
}

-- what a blackboard service gets
abbrev pub default_blackboard : Blackboard
default_blackboard = record { max_readers = 8; max_nodes = 20 }

-- what services of all patterns get
abbrev pub default_defaults : Defaults
default_defaults = record {
  publish_subscribe = default_publish_subscribe;
  event = default_event;
  request_response = default_request_response;
  blackboard = default_blackboard;
}

-- the whole configuration
pub record IsDefaultConfig (config : Config) : Type 0 where
  pub global : IsDefaultGlobal config.global
  pub defaults : config.defaults ≡ default_defaults
