use Rattle.histories.proofs.Chains.{IsFollowing}
use Rattle.histories.proofs.gather.is_in_chain.Given as goal

abbrev pub invariant-loop-left : goal.invariant-loop-left
invariant-loop-left g l = IsFollowing g.M.Machine.hash l.configs l.before l.config l.left

abbrev pub decreases-loop-left : goal.decreases-loop-left
decreases-loop-left g l = l.left
