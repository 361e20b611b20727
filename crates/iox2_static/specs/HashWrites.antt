-- What static configurations give to a hasher: their fields in turn.
use Rattle.std.specs.Prelude.{◌++◌, pos}
use Rattle.std.specs.Hash.{HashWrites, bool, isize, option, u32, u64, usize}
use Rattle.std.specs.declared.time.Duration.{Duration}
use Rattle.iox2_ids.specs.Time.{moment_writes}
use Rattle.iox2_config.specs.HashWrites.{detail_writes, details_writes}
use Rattle.iox2_static.specs.declared.static_config.blackboard.StaticConfig.{StaticConfig as Blackboard}
use Rattle.iox2_static.specs.declared.static_config.event.Deadline.{Deadline}
use Rattle.iox2_static.specs.declared.static_config.event.StaticConfig.{StaticConfig as Event}
use Rattle.iox2_static.specs.declared.static_config.messaging_pattern.MessagingPattern.{MessagingPattern}
use Rattle.iox2_static.specs.declared.static_config.messaging_pattern.MessagingPattern.TheVariants as pattern
use Rattle.iox2_static.specs.declared.static_config.publish_subscribe.StaticConfig.{StaticConfig as PublishSubscribe}
use Rattle.iox2_static.specs.declared.static_config.request_response.StaticConfig.{StaticConfig as RequestResponse}

-- what the configuration of a publish-subscribe service gives
abbrev pub publish_subscribe_writes : PublishSubscribe → HashWrites
publish_subscribe_writes c = usize c.max_subscribers
    ++ (usize c.max_publishers ++ (usize c.max_nodes ++ (usize c.history_size
    ++ (usize c.subscriber_max_buffer_size
    ++ (usize c.subscriber_max_borrowed_samples ++ (bool c.enable_safe_overflow
    ++ details_writes c.message_type_details))))))

-- what the configuration of a request-response service gives
abbrev pub request_response_writes : RequestResponse → HashWrites
request_response_writes c = bool c.enable_safe_overflow_for_requests
    ++ (bool c.enable_safe_overflow_for_responses
    ++ (bool c.enable_fire_and_forget_requests
    ++ (usize c.max_active_requests_per_client ++ (usize c.max_loaned_requests
    ++ (usize c.max_response_buffer_size
    ++ (usize c.max_servers ++ (usize c.max_clients ++ (usize c.max_nodes
    ++ (usize c.max_borrowed_responses_per_pending_response
    ++ (details_writes c.request_message_type_details
    ++ details_writes c.response_message_type_details))))))))))

-- what a span of time gives: its seconds and nanoseconds
abbrev pub duration_writes : Duration → HashWrites
duration_writes d = u64 d.secs ++ u32 d.nanos

-- what a deadline gives
abbrev pub deadline_writes : Deadline → HashWrites
deadline_writes d = moment_writes d.creation_time ++ duration_writes d.value

-- what the configuration of an event service gives
abbrev pub event_writes : Event → HashWrites
event_writes c = usize c.max_notifiers
    ++ (usize c.max_listeners ++ (usize c.max_nodes ++ (usize c.event_id_max_value
    ++ (option deadline_writes c.deadline
    ++ (option usize c.notifier_created_event ++ (option usize c.notifier_dropped_event
    ++ option usize c.notifier_dead_event))))))

-- what the configuration of a blackboard service gives
abbrev pub blackboard_writes : Blackboard → HashWrites
blackboard_writes c = usize c.max_readers
    ++ (usize c.max_writers ++ (usize c.max_nodes ++ detail_writes c.type_details))

-- what a pattern gives: its number among the patterns, and then its configuration
abbrev pub pattern_writes : MessagingPattern → HashWrites
pattern_writes (pattern.RequestResponse c) = isize (pos 0) ++ request_response_writes c
pattern_writes (pattern.PublishSubscribe c) = isize (pos 1) ++ publish_subscribe_writes c
pattern_writes (pattern.Event c) = isize (pos 2) ++ event_writes c
pattern_writes (pattern.Blackboard c) = isize (pos 3) ++ blackboard_writes c
