-- What `==` decides of static configurations.
use Rattle.std.proofs.Common.{rules, ◌≡◌, refl, ap}
use Rattle.std.proofs.lemmas.Bool.Decides.{Decides-like}
use Rattle.std.specs.Bool.{Decides}
use Rattle.iox2_texts.proofs.ListingLemmas.{pairs-Decides}
use Rattle.iox2_texts.specs.Pair.{Pair}
use Rattle.iox2_config.proofs.Equality.{EqualityTest, decided, tests, numbers, texts, pairs, structs, lists, marked}
use Rattle.iox2_static.specs.contracts.static_config.StaticConfigPartialEq.TheImpl as description
use Rattle.iox2_static.specs.contracts.static_config.blackboard.StaticConfigPartialEq.TheImpl as blackboard
use Rattle.iox2_static.specs.contracts.static_config.event.StaticConfigPartialEq.TheImpl as event
use Rattle.iox2_static.specs.contracts.static_config.messaging_pattern.MessagingPatternPartialEq.TheImpl as messaging_pattern
use Rattle.iox2_static.specs.contracts.static_config.publish_subscribe.StaticConfigPartialEq.TheImpl as publish_subscribe
use Rattle.iox2_static.specs.contracts.static_config.request_response.StaticConfigPartialEq.TheImpl as request_response
use Rattle.iox2_static.specs.declared.static_config.blackboard.StaticConfig.{StaticConfig as Blackboard}
use Rattle.iox2_static.specs.declared.static_config.event.StaticConfig.{StaticConfig as Event}
use Rattle.iox2_static.specs.declared.static_config.messaging_pattern.MessagingPattern.{MessagingPattern}
use Rattle.iox2_static.specs.declared.static_config.messaging_pattern.MessagingPattern.TheVariants as pattern
use Rattle.iox2_static.specs.declared.static_config.publish_subscribe.StaticConfig.{StaticConfig as PublishSubscribe}
use Rattle.iox2_static.specs.declared.static_config.request_response.StaticConfig.{StaticConfig as RequestResponse}
use Rattle.iox2_static.specs.Description.{Description}

pub publish_subscribes_decide : (a b : PublishSubscribe)
    → Decides (publish_subscribe.ghosts.eq a b) (a ≡ b)
publish_subscribes_decide = decided (hlevel tests)

pub request_responses_decide : (a b : RequestResponse)
    → Decides (request_response.ghosts.eq a b) (a ≡ b)
request_responses_decide = decided (hlevel tests)

pub events_decide : (a b : Event) → Decides (event.ghosts.eq a b) (a ≡ b)
events_decide = decided (hlevel tests)

pub blackboards_decide : (a b : Blackboard) → Decides (blackboard.ghosts.eq a b) (a ≡ b)
blackboards_decide = decided (hlevel tests)

pub patterns_decide : (a b : MessagingPattern) → Decides (messaging_pattern.ghosts.eq a b) (a ≡ b)
patterns_decide (pattern.RequestResponse a) (pattern.RequestResponse b) =
    Decides-like _ (ap pattern.RequestResponse) (λ e. cc) (request_responses_decide a b)
patterns_decide (pattern.PublishSubscribe a) (pattern.PublishSubscribe b) =
    Decides-like _ (ap pattern.PublishSubscribe) (λ e. cc) (publish_subscribes_decide a b)
patterns_decide (pattern.Event a) (pattern.Event b) =
    Decides-like _ (ap pattern.Event) (λ e. cc) (events_decide a b)
patterns_decide (pattern.Blackboard a) (pattern.Blackboard b) =
    Decides-like _ (ap pattern.Blackboard) (λ e. cc) (blackboards_decide a b)
patterns_decide _ _ = search rules

abbrev attributes : EqualityTest Pair
attributes = record { test = _; decides = pairs-Decides }

abbrev patterns : EqualityTest MessagingPattern
patterns = record { test = messaging_pattern.ghosts.eq; decides = patterns_decide }

pub descriptions_decide : (a b : Description) → Decides (description.ghosts.eq a b) (a ≡ b)
descriptions_decide = decided (structs (λ d. (d.hash, (d.name, (d.id, (d.attributes, d.pattern)))))
    (λ p. record {
      name = p.1.0;
      id = p.1.1.0;
      hash = p.0;
      attributes = p.1.1.1.0;
      pattern = p.1.1.1.1;
    }) (λ _. refl)
    (pairs texts (pairs texts (pairs (marked numbers) (pairs (lists attributes) patterns)))))
