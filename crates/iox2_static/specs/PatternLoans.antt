-- What a pattern is once a borrow of its configuration
-- ends: the same pattern, with what the borrow left there.
use Rattle.std.specs.Borrow.{Lends, MutBor, Fml}
use Rattle.iox2_static.specs.declared.static_config.messaging_pattern.MessagingPattern.{MessagingPattern}
use Rattle.iox2_static.specs.declared.static_config.messaging_pattern.MessagingPattern.TheVariants as pattern
use Rattle.iox2_static.specs.declared.static_config.request_response.StaticConfig.{StaticConfig as RequestResponseConfig}
use Rattle.iox2_static.specs.declared.static_config.publish_subscribe.StaticConfig.{StaticConfig as PublishSubscribeConfig}
use Rattle.iox2_static.specs.declared.static_config.event.StaticConfig.{StaticConfig as EventConfig}
use Rattle.iox2_static.specs.declared.static_config.blackboard.StaticConfig.{StaticConfig as BlackboardConfig}
use Rattle.iox2_static.specs.contracts.static_config.messaging_pattern.MessagingPattern.{the_row as pattern_row}
use Rattle.iox2_static.specs.contracts.static_config.request_response.StaticConfig.{the_row as request_response_row}
use Rattle.iox2_static.specs.contracts.static_config.publish_subscribe.StaticConfig.{the_row as publish_subscribe_row}
use Rattle.iox2_static.specs.contracts.static_config.event.StaticConfig.{the_row as event_row}
use Rattle.iox2_static.specs.contracts.static_config.blackboard.StaticConfig.{the_row as blackboard_row}

-- a pattern once a borrow of its request-response configuration ends
abbrev pub LendsRequestResponse : MutBor MessagingPattern → MutBor RequestResponseConfig → Fml
LendsRequestResponse s r =
    Lends pattern_row request_response_row s r (λ config. pattern.RequestResponse config)

-- a pattern once a borrow of its publish-subscribe configuration ends
abbrev pub LendsPublishSubscribe : MutBor MessagingPattern → MutBor PublishSubscribeConfig → Fml
LendsPublishSubscribe s r =
    Lends pattern_row publish_subscribe_row s r (λ config. pattern.PublishSubscribe config)

-- a pattern once a borrow of its event configuration ends
abbrev pub LendsEvent : MutBor MessagingPattern → MutBor EventConfig → Fml
LendsEvent s r = Lends pattern_row event_row s r (λ config. pattern.Event config)

-- a pattern once a borrow of its blackboard configuration ends
abbrev pub LendsBlackboard : MutBor MessagingPattern → MutBor BlackboardConfig → Fml
LendsBlackboard s r = Lends pattern_row blackboard_row s r (λ config. pattern.Blackboard config)
