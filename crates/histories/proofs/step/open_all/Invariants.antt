use Rattle.histories.proofs.Words.{[], ◌≤◌, length, FromOne, IsOpened, Settles}
use Rattle.histories.proofs.step.open_all.Given as goal

abbrev pub invariant-loop-config : goal.invariant-loop-config
invariant-loop-config g l =
    Settles (g.M.Machine.Step l.machine) l.slots (FromOne (IsOpened l.slot) l.yielded) [] l.opened
    × (length l.opened ≤ length l.yielded)
