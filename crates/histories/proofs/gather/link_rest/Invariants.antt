use Rattle.histories.proofs.Words.{◌≡◌, ◌-◌, length, AreChained}
use Rattle.histories.proofs.gather.link_rest.Given as goal

abbrev pub invariant-loop-heads : goal.invariant-loop-heads
invariant-loop-heads g l =
    AreChained g.M.Machine.hash l.configs l.heads l.before.items × (length l.heads ≡ 1021)

abbrev pub decreases-loop-heads : goal.decreases-loop-heads
decreases-loop-heads g l = length l.configs - length l.before.items
