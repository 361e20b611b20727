use Rattle.std.proofs.Common.{◌≡◌, ◌<◌, ℕ}
use Rattle.history_drawing.specs.Calls.{text_at}
use Rattle.history_drawing.proofs.timeline.position_of.Given as goal

abbrev pub invariant-loop-row : goal.invariant-loop-row
invariant-loop-row l = (k : ℕ) → k < l.row → text_at l.rows k ≡ l.caller → ⊥
