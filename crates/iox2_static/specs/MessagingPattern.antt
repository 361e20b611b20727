-- The kinds of patterns and their names.
use Rattle.std.specs.Prelude.{ℕ, List}
use lib.Chars.{codes}
use Rattle.iox2_config.specs.declared.hash.input.PatternKind.{PatternKind}
use Rattle.iox2_config.specs.declared.hash.input.PatternKind.TheVariants as kind
use Rattle.iox2_static.specs.declared.static_config.messaging_pattern.MessagingPattern.{MessagingPattern}
use Rattle.iox2_static.specs.declared.static_config.messaging_pattern.MessagingPattern.TheVariants as pattern

-- the kind of a pattern
abbrev pub kind_of : MessagingPattern → PatternKind
kind_of (pattern.RequestResponse config) = kind.RequestResponse
kind_of (pattern.PublishSubscribe config) = kind.PublishSubscribe
kind_of (pattern.Event config) = kind.Event
kind_of (pattern.Blackboard config) = kind.Blackboard

-- the name of a pattern
abbrev pub name_of : MessagingPattern → List ℕ
name_of (pattern.RequestResponse config) = codes "RequestResponse"
name_of (pattern.PublishSubscribe config) = codes "PublishSubscribe"
name_of (pattern.Event config) = codes "Event"
name_of (pattern.Blackboard config) = codes "Blackboard"
