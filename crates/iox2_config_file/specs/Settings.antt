-- The tables of the file, and the settings in each: the key of each, what it may be, and where it
-- lies in the configuration.
use Rattle.std.specs.Prelude.{ℕ, Bool, not, ◌&&◌, ◌||◌, ◌==◌, nat_le, List, [], Option, Some, None, codes, flat_map, option_map, slice_get, ◌∷◌, ◌++◌}
use Rattle.std.specs.List.{list_all}
use Rattle.iox2_config_file.specs.declared.section.Row.{Row}
use Rattle.iox2_config_file.specs.declared.section.Section.{Section}
use Rattle.iox2_config_file.specs.declared.section.Section.TheVariants as section
use Rattle.std.specs.Duration.{as_nanos}
use Rattle.std.specs.declared.time.Duration.{Duration}
use Rattle.iox2_config.specs.declared.config.choices.BackpressureStrategy.{BackpressureStrategy}
use Rattle.iox2_config.specs.declared.config.choices.AllocationStrategy.{AllocationStrategy}
use Rattle.iox2_config.specs.GlobalSettings.{GlobalSettings}
use Rattle.iox2_config.specs.declared.config.global.Service.{Service}
use Rattle.iox2_config.specs.declared.config.global.Node.{Node}
use Rattle.iox2_config.specs.declared.config.Config.{Config}
use Rattle.iox2_config.specs.declared.config.defaults.PublishSubscribe.{PublishSubscribe}
use Rattle.iox2_config.specs.declared.config.defaults.Event.{Event}
use Rattle.iox2_config.specs.declared.config.defaults.RequestResonse.{RequestResonse}
use Rattle.iox2_config.specs.declared.config.defaults.Blackboard.{Blackboard}
use Rattle.iox2_config_file.specs.declared.fault.Kind.{Kind}
use Rattle.iox2_config_file.specs.declared.fault.Kind.TheVariants as kind
use Rattle.iox2_config_file.specs.Values.{SettingValue, number, flag, text, backpressure, allocation, duration, option_value}

-- the keys that lead to a table
abbrev pub table_path : Section → List (List ℕ)
table_path section.Root = []
table_path section.Global = codes "global" ∷ []
table_path section.Service = codes "global" ∷ codes "service" ∷ []
table_path section.Node = codes "global" ∷ codes "node" ∷ []
table_path section.Defaults = codes "defaults" ∷ []
table_path section.PublishSubscribe = codes "defaults" ∷ codes "publish-subscribe" ∷ []
table_path section.Event = codes "defaults" ∷ codes "event" ∷ []
table_path section.RequestResponse = codes "defaults" ∷ codes "request-response" ∷ []
table_path section.Blackboard = codes "defaults" ∷ codes "blackboard" ∷ []

-- what stands before the keys of a table in their paths
abbrev pub prefix_of : Section → List ℕ
prefix_of s = flat_map (λ key. key ++ codes ".") (table_path s)

-- some keys with dots between them
abbrev pub dotted : List (List ℕ) → List ℕ
dotted [] = []
dotted (key ∷ []) = key
dotted (key ∷ keys) = key ++ (codes "." ++ dotted keys)

-- the name of a table that has settings, as its header spells it
abbrev pub header_name : Section → Option (List ℕ)
header_name section.Root = None
header_name section.Defaults = None
header_name s = Some (dotted (table_path s))

-- a byte that a text of JSON has as it is: no control character, and neither `"` nor `\`
abbrev pub is_unescaped : ℕ → Bool
is_unescaped c = nat_le 32 c && not ((c == 34 || c == 92) || c == 127)

-- the text may stand in a comment, and as it is in a text of JSON
abbrev pub is_line : List ℕ → Bool
is_line line = list_all is_unescaped line

-- what is said of each row may stand in both
abbrev pub are_lines : List Row → Bool
are_lines rows = list_all (λ row. is_line row.about.now) rows

-- one setting: its key in its table, what it may be, and what it is
pub record Setting : Type 0 where
  pub key : List ℕ
  pub kind : Kind
  pub value : SettingValue

abbrev setting : List ℕ → Kind → SettingValue → Setting
setting key kind value = record { key = key; kind = kind; value = value }

-- settings of each kind
abbrev path_at : List ℕ → List ℕ → Setting
path_at key s = setting key kind.Path (text s)

abbrev file_name_at : List ℕ → List ℕ → Setting
file_name_at key s = setting key kind.FileName (text s)

abbrev flag_at : List ℕ → Bool → Setting
flag_at key b = setting key kind.Flag (flag b)

abbrev number_at : List ℕ → ℕ → Setting
number_at key n = setting key kind.Number (number n)

abbrev backpressure_at : List ℕ → BackpressureStrategy → Setting
backpressure_at key b = setting key kind.Backpressure (backpressure b)

abbrev allocation_at : List ℕ → AllocationStrategy → Setting
allocation_at key a = setting key kind.Allocation (allocation a)

abbrev duration_at : List ℕ → Duration → Setting
duration_at key d = setting key kind.Duration (duration (as_nanos d))

abbrev optional_number_at : List ℕ → Option ℕ → Setting
optional_number_at key n = setting key kind.Number (option_value number n)

abbrev optional_duration_at : List ℕ → Option Duration → Setting
optional_duration_at key d =
    setting key kind.Duration (option_value (λ x. duration (as_nanos x)) d)

-- the settings of a whole system
abbrev pub global_settings : GlobalSettings → List Setting
global_settings s =
    path_at (codes "root-path") s.root_path
    ∷ file_name_at (codes "prefix") s.prefix
    ∷ duration_at (codes "creation-timeout") s.creation_timeout
    ∷ []

-- the settings of services' files
abbrev pub service_settings : Service → List Setting
service_settings s =
    path_at (codes "directory") s.directory
    ∷ file_name_at (codes "data-segment-suffix") s.data_segment_suffix
    ∷ file_name_at (codes "static-config-storage-suffix") s.static_config_storage_suffix
    ∷ file_name_at (codes "dynamic-config-storage-suffix") s.dynamic_config_storage_suffix
    ∷ file_name_at (codes "connection-suffix") s.connection_suffix
    ∷ file_name_at (codes "event-connection-suffix") s.event_connection_suffix
    ∷ file_name_at (codes "blackboard-mgmt-suffix") s.blackboard_mgmt_suffix
    ∷ file_name_at (codes "blackboard-data-suffix") s.blackboard_data_suffix
    ∷ flag_at (codes "cleanup-dead-nodes-on-open") s.cleanup_dead_nodes_on_open
    ∷ []

-- the settings of nodes' files
abbrev pub node_settings : Node → List Setting
node_settings s =
    path_at (codes "directory") s.directory
    ∷ file_name_at (codes "monitor-suffix") s.monitor_suffix
    ∷ file_name_at (codes "static-config-suffix") s.static_config_suffix
    ∷ file_name_at (codes "service-tag-suffix") s.service_tag_suffix
    ∷ file_name_at (codes "port-tag-suffix") s.port_tag_suffix
    ∷ file_name_at (codes "global-mgmt-suffix") s.global_mgmt_suffix
    ∷ flag_at (codes "cleanup-dead-nodes-on-creation") s.cleanup_dead_nodes_on_creation
    ∷ flag_at (codes "cleanup-dead-nodes-on-destruction") s.cleanup_dead_nodes_on_destruction
    ∷ []

-- the settings of publish-subscribe services
abbrev pub publish_subscribe_settings : PublishSubscribe → List Setting
publish_subscribe_settings s =
    number_at (codes "max-subscribers") s.max_subscribers
    ∷ number_at (codes "max-publishers") s.max_publishers
    ∷ number_at (codes "max-nodes") s.max_nodes
    ∷ number_at (codes "subscriber-max-buffer-size") s.subscriber_max_buffer_size
    ∷ number_at (codes "subscriber-max-borrowed-samples") s.subscriber_max_borrowed_samples
    ∷ number_at (codes "publisher-max-loaned-samples") s.publisher_max_loaned_samples
    ∷ number_at (codes "publisher-history-size") s.publisher_history_size
    ∷ flag_at (codes "enable-safe-overflow") s.enable_safe_overflow
    ∷ backpressure_at (codes "backpressure-strategy") s.backpressure_strategy
    ∷ number_at (codes "subscriber-expired-connection-buffer")
    s.subscriber_expired_connection_buffer
    ∷ allocation_at (codes "publisher-allocation-strategy") s.publisher_allocation_strategy
    ∷ []

-- the settings of event services
abbrev pub event_settings : Event → List Setting
event_settings s =
    number_at (codes "max-listeners") s.max_listeners
    ∷ number_at (codes "max-notifiers") s.max_notifiers
    ∷ number_at (codes "max-nodes") s.max_nodes
    ∷ number_at (codes "event-id-max-value") s.event_id_max_value
    ∷ optional_duration_at (codes "deadline") s.deadline
    ∷ optional_number_at (codes "notifier-created-event") s.notifier_created_event
    ∷ optional_number_at (codes "notifier-dropped-event") s.notifier_dropped_event
    ∷ optional_number_at (codes "notifier-dead-event") s.notifier_dead_event
    ∷ []

-- the settings of request-response services
abbrev pub request_response_settings : RequestResonse → List Setting
request_response_settings s =
    flag_at (codes "enable-safe-overflow-for-requests") s.enable_safe_overflow_for_requests
    ∷ flag_at (codes "enable-safe-overflow-for-responses") s.enable_safe_overflow_for_responses
    ∷ number_at (codes "max-active-requests-per-client") s.max_active_requests_per_client
    ∷ number_at (codes "max-response-buffer-size") s.max_response_buffer_size
    ∷ number_at (codes "max-servers") s.max_servers
    ∷ number_at (codes "max-clients") s.max_clients
    ∷ number_at (codes "max-nodes") s.max_nodes
    ∷ number_at (codes "max-borrowed-responses-per-pending-response")
    s.max_borrowed_responses_per_pending_response
    ∷ number_at (codes "max-loaned-requests") s.max_loaned_requests
    ∷ number_at (codes "server-max-loaned-responses-per-request")
    s.server_max_loaned_responses_per_request
    ∷ backpressure_at (codes "client-backpressure-strategy") s.client_backpressure_strategy
    ∷ backpressure_at (codes "server-backpressure-strategy") s.server_backpressure_strategy
    ∷ number_at (codes "client-expired-connection-buffer") s.client_expired_connection_buffer
    ∷ number_at (codes "server-expired-connection-buffer") s.server_expired_connection_buffer
    ∷ flag_at (codes "enable-fire-and-forget-requests") s.enable_fire_and_forget_requests
    ∷ allocation_at (codes "client-allocation-strategy") s.client_allocation_strategy
    ∷ allocation_at (codes "server-allocation-strategy") s.server_allocation_strategy
    ∷ []

-- the settings of blackboard services
abbrev pub blackboard_settings : Blackboard → List Setting
blackboard_settings s =
    number_at (codes "max-readers") s.max_readers
    ∷ number_at (codes "max-nodes") s.max_nodes
    ∷ []

-- the settings that stand in a table of the file
abbrev pub settings_in : Section → Config → List Setting
settings_in section.Root c = []
settings_in section.Global c = global_settings c.global
settings_in section.Service c = service_settings c.global.service
settings_in section.Node c = node_settings c.global.node
settings_in section.Defaults c = []
settings_in section.PublishSubscribe c = publish_subscribe_settings c.defaults.publish_subscribe
settings_in section.Event c = event_settings c.defaults.event
settings_in section.RequestResponse c = request_response_settings c.defaults.request_response
settings_in section.Blackboard c = blackboard_settings c.defaults.blackboard

-- the tables that stand in a table of the file
abbrev pub tables_in : Section → List (List ℕ)
tables_in section.Root = codes "global" ∷ codes "defaults" ∷ []
tables_in section.Global = codes "service" ∷ codes "node" ∷ []
tables_in section.Defaults =
    codes "publish-subscribe" ∷ codes "event" ∷ codes "request-response" ∷ codes "blackboard" ∷ []
tables_in _ = []

-- what the setting of this number holds
abbrev pub held_at : List Setting → ℕ → Option SettingValue
held_at xs i = option_map (λ x. x.value) (slice_get xs i)
