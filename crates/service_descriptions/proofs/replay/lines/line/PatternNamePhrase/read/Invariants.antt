use Rattle.std.proofs.Common.{◌≢◌, ℕ, ◌<◌, List}
use Rattle.service_descriptions.proofs.Names.{PatternKind, pattern_phrase}
use Rattle.iox2_config.specs.Hashing.{pattern_number}
use Rattle.service_descriptions.proofs.replay.lines.line.PatternNamePhrase.read.Given as goal

-- no pattern of a lower number stands at the front
abbrev pub invariant-loop-kind : goal.invariant-loop-kind
invariant-loop-kind l =
    (found : PatternKind × List ℕ) → pattern_number found.0 < l.kind-index
    → l.bytes ≢ pattern_phrase.text found
