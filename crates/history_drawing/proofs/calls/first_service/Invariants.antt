use Rattle.history_drawing.specs.Calls.{NoServiceAbove}
use Rattle.history_drawing.proofs.calls.first_service.Given as goal

abbrev pub invariant-loop-line : goal.invariant-loop-line
invariant-loop-line l = NoServiceAbove l.lines l.line
