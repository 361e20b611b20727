use Rattle.std.proofs.Common.{ℕ, ◌+◌, ◌<◌, ◌≤◌}
use Rattle.history_drawing.specs.Calls.{IsElsewhere}
use Rattle.history_drawing.proofs.drawing.service_of.Given as goal

abbrev pub invariant-loop-line : goal.invariant-loop-line
invariant-loop-line l =
    (k : ℕ) → l.first ≤ k → k < l.line → IsElsewhere l.lines (l.refused + 1) l.refused k
