use Rattle.histories.proofs.Words.{FromOne, IsNextIn, Settles}
use Rattle.histories.proofs.close.make_states.Given as goal

abbrev pub invariant-loop-state : goal.invariant-loop-state
invariant-loop-state g l =
    Settles (g.M.Machine.Step l.machine) l.slots
    (FromOne (IsNextIn l.config l.slot l.call) l.yielded) l.fn.next l.next
