use Rattle.histories.proofs.Words.{take, IsFrontOf}
use Rattle.histories.proofs.needed.is_refused.Given as goal

abbrev pub invariant-loop-at : goal.invariant-loop-at
invariant-loop-at g l = IsFrontOf (g.M.Machine.Step l.machine) l.front (take l.at l.events) l.states
