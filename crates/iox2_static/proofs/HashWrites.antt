-- What the derived `hash` of a pattern gives to a hasher.
use Rattle.std.proofs.Common.{rules, ◌≡◌, refl}
use Rattle.iox2_static.specs.HashWrites.{pattern_writes}
use Rattle.iox2_static.specs.contracts.static_config.messaging_pattern.MessagingPatternHash.TheImpl as messaging_pattern
use Rattle.iox2_static.specs.declared.static_config.messaging_pattern.MessagingPattern.{MessagingPattern}
use Rattle.iox2_static.specs.declared.static_config.messaging_pattern.MessagingPattern.TheVariants as pattern

pub patterns_written : (p : MessagingPattern)
    → messaging_pattern.ghosts.hash_input p ≡ pattern_writes p
patterns_written (pattern.RequestResponse c) = search rules
patterns_written (pattern.PublishSubscribe c) = search rules
patterns_written (pattern.Event c) = refl
patterns_written (pattern.Blackboard c) = search rules
