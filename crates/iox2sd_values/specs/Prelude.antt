-- The names of the crates below, and of the declared types, that the definitions cite.
pub use Rattle.iox2_config.specs.Defaults.{IsDefaultGlobal, default_node, default_service}
pub use Rattle.iox2_config.specs.Hashing.{MakesHash, ReadsPattern, hash_input, pattern_number, sha1_text}
pub use Rattle.iox2_config.specs.declared.hash.input.PatternKind.{PatternKind}
pub use Rattle.iox2_config.specs.declared.hash.service_hash.ServiceHashError.TheVariants.{IllegalText}
pub use Rattle.iox2_static.specs.Blackboard.{blackboard_of}
pub use Rattle.iox2_static.specs.Event.{duration_of, event_of}
pub use Rattle.iox2_texts.specs.Name.{IsAllowed, IsName, MakesLegal, MakesName, MakesPublicName, MakesServiceName}
pub use Rattle.iox2_texts.specs.Path.{EndsPlain, IsPlain, IsRestricted, MakesJoined, is_restricted}
pub use Rattle.iox2_texts.specs.declared.bounded.SemanticStringError.{SemanticStringError}
pub use Rattle.iox2sd_common.specs.ReadSettings.{ReadsBlackboard, ReadsEvent, ReadsPublishSubscribe, ReadsRequestResponse, field_answer, no_field}
pub use Rattle.iox2sd_common.specs.Status.{code, end_code, OfNumber}
pub use Rattle.iox2sd_common.specs.declared.answers.CountAnswer.{CountAnswer}
pub use Rattle.iox2sd_common.specs.declared.answers.PlaceAnswer.{PlaceAnswer}
pub use Rattle.iox2sd_common.specs.declared.answers.TextAnswer.{TextAnswer}
pub use Rattle.iox2sd_common.specs.declared.read_settings.Field.{Field}
pub use Rattle.iox2sd_common.specs.declared.read_settings.FieldAnswer.{FieldAnswer}
pub use Rattle.iox2sd_common.specs.declared.settings.BlackboardSettings.{BlackboardSettings}
pub use Rattle.iox2sd_common.specs.declared.settings.EventSettings.{EventSettings}
pub use Rattle.iox2sd_common.specs.declared.settings.PublishSubscribeSettings.{PublishSubscribeSettings}
pub use Rattle.iox2sd_common.specs.declared.settings.RequestResponseSettings.{RequestResponseSettings}
pub use Rattle.iox2sd_common.specs.declared.status.Status.{Status}
pub use Rattle.iox2sd_values.specs.declared.attributes.Attribute.{Attribute}
pub use Rattle.iox2sd_values.specs.declared.attributes.Key.{Key}
pub use Rattle.iox2sd_values.specs.declared.descriptions.BlackboardConfig.{BlackboardConfig}
pub use Rattle.iox2sd_values.specs.declared.descriptions.EventConfig.{EventConfig}
pub use Rattle.iox2sd_values.specs.declared.descriptions.PublishSubscribeConfig.{PublishSubscribeConfig}
pub use Rattle.iox2sd_values.specs.declared.descriptions.RequestResponseConfig.{RequestResponseConfig}
pub use Rattle.iox2_config.specs.DefaultTypes.{default_details}
pub use Rattle.iox2_config.specs.TypeDetailParts.{TypeDetailParts, default_detail}
pub use Rattle.iox2_static.specs.declared.static_config.blackboard.StaticConfig.{StaticConfig as Blackboard}
pub use Rattle.iox2_static.specs.declared.static_config.publish_subscribe.StaticConfig.{StaticConfig as PublishSubscribe}
pub use Rattle.iox2_static.specs.declared.static_config.request_response.StaticConfig.{StaticConfig as RequestResponse}
pub use Rattle.iox2_texts.specs.Attribute.{IsListing, values_of}
pub use Rattle.iox2_texts.specs.Pair.{Pair, pair_cmp}
pub use Rattle.iox2_texts.specs.Verify.{Misses, IsFirst}
pub use Rattle.iox2sd_common.specs.Answers.{OfGiven, Returns, count_answer, Written, flag_answer, zero_padded, place_answer, Reading, ReportsText}
pub use Rattle.iox2sd_common.specs.Settings.{c_global, c_duration, c_event_id}
pub use Rattle.iox2sd_values.specs.declared.refusals.Refusal.{Refusal}
