use Rattle.histories.proofs.Words.{IsNextBeside, Settles}
use Rattle.histories.proofs.close.make_calls.Given as goal

abbrev pub invariant-loop-other : goal.invariant-loop-other
invariant-loop-other g l =
    Settles (g.M.Machine.Step l.machine) l.slots
    (IsNextBeside (g.M.Machine.Step l.machine) l.slots l.config l.slot l.other) l.fn.next l.next
