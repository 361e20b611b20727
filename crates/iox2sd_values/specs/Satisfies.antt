-- Whether a service meets what an opener requires, reported by the first setting that it does not
-- meet.
use Rattle.std.specs.Prelude.{◌≡◌, ℕ, List, Option, Some, None, Result}
use Rattle.iox2sd_values.specs.Prelude.{BlackboardConfig, EventConfig, EventSettings, Field, FieldAnswer, PublishSubscribeConfig, ReadsEvent, RequestResponseConfig, code, event_of, field_answer, no_field, OfGiven, Reading, PublishSubscribe, RequestResponse, default_details, Blackboard, default_detail}
use Rattle.iox2_static.specs.Requirements.{first_unmet}
use Rattle.iox2_static.specs.Satisfies.{publish_subscribe_requirements, event_requirements, request_response_requirements, blackboard_requirements}
use Rattle.iox2_static.specs.declared.static_config.event.StaticConfig.{StaticConfig as Event}
use Rattle.iox2_static.specs.declared.static_config.setting.Setting.{Setting}
use Rattle.iox2_static.specs.declared.static_config.setting.Setting.TheVariants as setting
use Rattle.iox2sd_common.specs.declared.status.Status.TheVariants as status
use Rattle.iox2sd_values.specs.Descriptions.{ReadsAs}

-- the number of a setting, which no field has that may be invalid, but for the deadline
abbrev pub setting_number : Setting → ℕ
setting_number setting.MaxSubscribers = 8
setting_number setting.MaxPublishers = 9
setting_number setting.HistorySize = 10
setting_number setting.SubscriberMaxBufferSize = 11
setting_number setting.SubscriberMaxBorrowedSamples = 12
setting_number setting.EnableSafeOverflow = 13
setting_number setting.MaxNotifiers = 14
setting_number setting.MaxListeners = 15
setting_number setting.EventIdMaxValue = 16
setting_number setting.Deadline = 2
setting_number setting.NotifierCreatedEvent = 17
setting_number setting.NotifierDroppedEvent = 18
setting_number setting.NotifierDeadEvent = 19
setting_number setting.EnableSafeOverflowForRequests = 20
setting_number setting.EnableSafeOverflowForResponses = 21
setting_number setting.EnableFireAndForgetRequests = 22
setting_number setting.MaxActiveRequestsPerClient = 23
setting_number setting.MaxLoanedRequests = 24
setting_number setting.MaxResponseBufferSize = 25
setting_number setting.MaxServers = 26
setting_number setting.MaxClients = 27
setting_number setting.MaxBorrowedResponsesPerPendingResponse = 28
setting_number setting.MaxReaders = 29
setting_number setting.MaxWriters = 30
setting_number setting.MaxNodes = 31

-- the answer on the first setting that is not met, or on none
abbrev pub satisfied : Option Setting → FieldAnswer
satisfied None = no_field status.Done
satisfied (Some first) =
    record { status = code status.Unmet; field = setting_number first; cause = 0 }

-- the settings by which this is fixed of an event service
abbrev pub settings_of : EventConfig → EventSettings
settings_of c = record {
  max_listeners = c.max_listeners;
  max_notifiers = c.max_notifiers;
  max_nodes = c.max_nodes;
  event_id_max_value = c.event_id_max_value;
  deadline = c.deadline;
  notifier_created_event = c.notifier_created_event;
  notifier_dropped_event = c.notifier_dropped_event;
  notifier_dead_event = c.notifier_dead_event;
}

-- what is fixed of an event service, or the field that is invalid
abbrev pub ReadsFixed : EventConfig → Result Event Field → Type 0
ReadsFixed c made = ReadsAs (ReadsEvent (settings_of c)) event_of made

-- the answer on both: the service is read before what the opener requires
abbrev pub ComparesEvents : EventConfig → EventConfig → FieldAnswer → Type 0
ComparesEvents s r answer =
    Reading (ReadsFixed s) (λ f. answer ≡ field_answer f) (λ service.
    Reading (ReadsFixed r) (λ f. answer ≡ field_answer f) (λ required.
    answer ≡ satisfied (first_unmet (event_requirements service required))))

-- the answer where both are given
abbrev pub SatisfiesBy : {C : Type 0} → (C → C → FieldAnswer → Type 0) → List C → List C
    → FieldAnswer → Type 0
SatisfiesBy Compares services required answer =
    OfGiven (no_field status.Null) (λ s. OfGiven (no_field status.Null) (Compares s) required)
    services answer

-- the layer's configuration with these plain values, of messages of default types
abbrev pub fixed_publish_subscribe : PublishSubscribeConfig → PublishSubscribe
fixed_publish_subscribe c = record {
  max_subscribers = c.max_subscribers;
  max_publishers = c.max_publishers;
  max_nodes = c.max_nodes;
  history_size = c.history_size;
  subscriber_max_buffer_size = c.subscriber_max_buffer_size;
  subscriber_max_borrowed_samples = c.subscriber_max_borrowed_samples;
  enable_safe_overflow = c.enable_safe_overflow;
  message_type_details = default_details;
}

abbrev pub fixed_request_response : RequestResponseConfig → RequestResponse
fixed_request_response c = record {
  enable_safe_overflow_for_requests = c.enable_safe_overflow_for_requests;
  enable_safe_overflow_for_responses = c.enable_safe_overflow_for_responses;
  enable_fire_and_forget_requests = c.enable_fire_and_forget_requests;
  max_active_requests_per_client = c.max_active_requests_per_client;
  max_loaned_requests = c.max_loaned_requests;
  max_response_buffer_size = c.max_response_buffer_size;
  max_servers = c.max_servers;
  max_clients = c.max_clients;
  max_nodes = c.max_nodes;
  max_borrowed_responses_per_pending_response = c.max_borrowed_responses_per_pending_response;
  request_message_type_details = default_details;
  response_message_type_details = default_details;
}

abbrev pub fixed_blackboard : BlackboardConfig → Blackboard
fixed_blackboard c = record {
  max_readers = c.max_readers;
  max_writers = c.max_writers;
  max_nodes = c.max_nodes;
  type_details = default_detail;
}

-- the answer on those configurations: others with the same plain values compare so too
-- (`ComparesAlike`)
abbrev pub ComparesFixed : {C L : Type 0} → (C → L) → (L → L → Option Setting) → C → C
    → FieldAnswer → Type 0
ComparesFixed fixed unmet s r answer = answer ≡ satisfied (unmet (fixed s) (fixed r))

-- of publish-subscribe services
abbrev pub SatisfiesPublishSubscribe : List PublishSubscribeConfig → List PublishSubscribeConfig
    → FieldAnswer → Type 0
SatisfiesPublishSubscribe = SatisfiesBy (ComparesFixed fixed_publish_subscribe
    (λ s r. first_unmet (publish_subscribe_requirements s r)))

-- of event services
abbrev pub SatisfiesEvent : List EventConfig → List EventConfig → FieldAnswer → Type 0
SatisfiesEvent = SatisfiesBy ComparesEvents

-- of request-response services
abbrev pub SatisfiesRequestResponse : List RequestResponseConfig → List RequestResponseConfig
    → FieldAnswer → Type 0
SatisfiesRequestResponse = SatisfiesBy (ComparesFixed fixed_request_response
    (λ s r. first_unmet (request_response_requirements s r)))

-- of blackboard services
abbrev pub SatisfiesBlackboard : List BlackboardConfig → List BlackboardConfig → FieldAnswer
    → Type 0
SatisfiesBlackboard =
    SatisfiesBy (ComparesFixed fixed_blackboard (λ s r. first_unmet (blackboard_requirements s r)))
