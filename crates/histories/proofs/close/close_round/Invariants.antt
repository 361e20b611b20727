use Rattle.histories.proofs.Words.{[], FromOne, Gathers, GoesOn, IsDone}
use Rattle.histories.proofs.close.close_round.Given as goal

abbrev pub invariant-loop-config : goal.invariant-loop-config
invariant-loop-config g l =
    Gathers (FromOne (IsDone l.slot) l.yielded) l.fn.done l.done
    × GoesOn (g.M.Machine.Step l.machine) l.slots l.slot l.yielded [] l.next
