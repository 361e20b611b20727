use Rattle.histories.proofs.Words.{length, ◌-◌, GoesOnTo}
use Rattle.histories.proofs.follow.go_on.Given as goal

abbrev pub invariant-loop-at : goal.invariant-loop-at
invariant-loop-at g l = GoesOnTo g.M.Machine.Step l.machine l.fn.front l.events l.at l.front

abbrev pub decreases-loop-at : goal.decreases-loop-at
decreases-loop-at g l = length l.events - l.at
