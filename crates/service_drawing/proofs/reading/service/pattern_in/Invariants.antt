use Rattle.std.proofs.Common.{◌≢◌, ℕ, ◌<◌, List, ◌∷◌, ◌++◌}
use Rattle.iox2_config.specs.declared.hash.input.PatternKind.{PatternKind}
use Rattle.iox2_config.specs.Hashing.{pattern_number, pattern_word}
use Rattle.service_drawing.proofs.reading.service.pattern_in.Given as goal

-- no pattern of a lower number begins the line
abbrev pub invariant-loop-kind : goal.invariant-loop-kind
invariant-loop-kind l =
    (kind : PatternKind) (name : List ℕ) → pattern_number kind < l.kind-index
    → l.line ≢ pattern_word kind ++ 32 ∷ name
