-- What an opener requires of a service of each pattern, in the order of its settings.
use Rattle.std.specs.Prelude.{List, [], ◌∷◌}
use Rattle.iox2_static.specs.Requirements.{at_least, same_choice, same_event, same_duration}
use Rattle.iox2_static.specs.Event.{duration_of}
use Rattle.iox2_static.specs.declared.static_config.blackboard.StaticConfig.{StaticConfig as Blackboard}
use Rattle.iox2_static.specs.declared.static_config.event.StaticConfig.{StaticConfig as Event}
use Rattle.iox2_static.specs.declared.static_config.publish_subscribe.StaticConfig.{StaticConfig as PublishSubscribe}
use Rattle.iox2_static.specs.declared.static_config.request_response.StaticConfig.{StaticConfig as RequestResponse}
use Rattle.iox2_static.specs.declared.static_config.setting.Requirement.{Requirement}
use Rattle.iox2_static.specs.declared.static_config.setting.Setting.TheVariants as setting

-- of a publish-subscribe service
unfoldable pub publish_subscribe_requirements : PublishSubscribe → PublishSubscribe
    → List Requirement
publish_subscribe_requirements has required =
    at_least setting.MaxSubscribers has.max_subscribers required.max_subscribers
    ∷ at_least setting.MaxPublishers has.max_publishers required.max_publishers
    ∷ at_least setting.MaxNodes has.max_nodes required.max_nodes
    ∷ at_least setting.HistorySize has.history_size required.history_size
    ∷ at_least setting.SubscriberMaxBufferSize
    has.subscriber_max_buffer_size required.subscriber_max_buffer_size
    ∷ at_least setting.SubscriberMaxBorrowedSamples
    has.subscriber_max_borrowed_samples required.subscriber_max_borrowed_samples
    ∷ same_choice setting.EnableSafeOverflow
    has.enable_safe_overflow required.enable_safe_overflow ∷ []

-- of an event service; of a deadline only its length counts, and not when it was set
unfoldable pub event_requirements : Event → Event → List Requirement
event_requirements has required =
    at_least setting.MaxNotifiers has.max_notifiers required.max_notifiers
    ∷ at_least setting.MaxListeners has.max_listeners required.max_listeners
    ∷ at_least setting.MaxNodes has.max_nodes required.max_nodes
    ∷ at_least setting.EventIdMaxValue has.event_id_max_value required.event_id_max_value
    ∷ same_duration setting.Deadline (duration_of has.deadline) (duration_of required.deadline)
    ∷ same_event setting.NotifierCreatedEvent
    has.notifier_created_event required.notifier_created_event
    ∷ same_event setting.NotifierDroppedEvent
    has.notifier_dropped_event required.notifier_dropped_event
    ∷ same_event setting.NotifierDeadEvent has.notifier_dead_event required.notifier_dead_event ∷ []

-- of a request-response service
unfoldable pub request_response_requirements : RequestResponse → RequestResponse → List Requirement
request_response_requirements has required =
    same_choice setting.EnableSafeOverflowForRequests
    has.enable_safe_overflow_for_requests required.enable_safe_overflow_for_requests
    ∷ same_choice setting.EnableSafeOverflowForResponses
    has.enable_safe_overflow_for_responses required.enable_safe_overflow_for_responses
    ∷ same_choice setting.EnableFireAndForgetRequests
    has.enable_fire_and_forget_requests required.enable_fire_and_forget_requests
    ∷ at_least setting.MaxActiveRequestsPerClient
    has.max_active_requests_per_client required.max_active_requests_per_client
    ∷ at_least setting.MaxLoanedRequests has.max_loaned_requests required.max_loaned_requests
    ∷ at_least setting.MaxResponseBufferSize
    has.max_response_buffer_size required.max_response_buffer_size
    ∷ at_least setting.MaxServers has.max_servers required.max_servers
    ∷ at_least setting.MaxClients has.max_clients required.max_clients
    ∷ at_least setting.MaxNodes has.max_nodes required.max_nodes
    ∷ at_least setting.MaxBorrowedResponsesPerPendingResponse
    has.max_borrowed_responses_per_pending_response
    required.max_borrowed_responses_per_pending_response
    ∷ []

-- of a blackboard service
unfoldable pub blackboard_requirements : Blackboard → Blackboard → List Requirement
blackboard_requirements has required =
    at_least setting.MaxReaders has.max_readers required.max_readers
    ∷ at_least setting.MaxWriters has.max_writers required.max_writers
    ∷ at_least setting.MaxNodes has.max_nodes required.max_nodes ∷ []
