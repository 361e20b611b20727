use Rattle.std.proofs.Common.{◌≡◌}
use Rattle.history_drawing.specs.Calls.{text_above}
use Rattle.history_drawing.proofs.calls.text_above.Given as goal

abbrev pub invariant-loop-at : goal.invariant-loop-at
invariant-loop-at l = text_above l.lines l.at ≡ text_above l.lines l.line

abbrev pub decreases-loop-at : goal.decreases-loop-at
decreases-loop-at l = l.at
