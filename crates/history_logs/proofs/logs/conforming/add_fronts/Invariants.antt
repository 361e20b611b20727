use Rattle.history_logs.proofs.Words.{AreSameFronts, length, ◌-◌, ◌≤◌}
use Rattle.history_logs.proofs.logs.conforming.add_fronts.Given as goal

abbrev pub invariant-loop-fronts : goal.invariant-loop-fronts
invariant-loop-fronts l =
    AreSameFronts l.fn.fronts.items l.fronts.items × (length l.fronts.items ≤ l.count)

abbrev pub decreases-loop-fronts : goal.decreases-loop-fronts
decreases-loop-fronts l = l.count - length l.fronts.items
