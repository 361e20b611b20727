use Rattle.std.proofs.Common.{◌+◌}
use Rattle.history_drawing.specs.Calls.{NoneEnds}
use Rattle.history_drawing.proofs.calls.end_below.Given as goal

abbrev pub invariant-loop-above : goal.invariant-loop-above
invariant-loop-above l = NoneEnds l.lines l.caller (l.line + 1) (l.above + 1)
