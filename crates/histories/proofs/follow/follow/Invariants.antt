use Rattle.histories.proofs.Words.{length, take, ◌-◌}
use Rattle.histories.proofs.Following.{FollowsTo}
use Rattle.histories.proofs.follow.follow.Given as goal

abbrev pub invariant-loop-at : goal.invariant-loop-at
invariant-loop-at g l =
    FollowsTo (g.M.Machine.Step l.machine) l.states l.cut (take l.at l.events) l.window

abbrev pub decreases-loop-at : goal.decreases-loop-at
decreases-loop-at g l = length l.events - l.at
