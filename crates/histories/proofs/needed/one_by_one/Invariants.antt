use Rattle.histories.proofs.Words.{IsRest, is_kept}
use Rattle.histories.proofs.needed.one_by_one.Given as goal

abbrev pub invariant-loop-event : goal.invariant-loop-event
invariant-loop-event g l =
    IsRest (g.M.Machine.Step l.machine) l.states l.events (is_kept l.left_out.items)
