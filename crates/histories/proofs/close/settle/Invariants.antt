use Rattle.histories.proofs.Words.{IsSettled, spot_of}
use Rattle.histories.proofs.close.settle.Given as goal

abbrev pub invariant-loop-slot : goal.invariant-loop-slot
invariant-loop-slot g l =
    IsSettled (g.M.Machine.Step l.machine) l.slots (spot_of l.fn.config) (spot_of l.config)
