use Rattle.histories.proofs.Words.{AllPairs, IsSame, IsClosing}
use Rattle.histories.proofs.close.close.Given as goal

abbrev pub invariant-loop-left : goal.invariant-loop-left
invariant-loop-left g l =
    IsClosing (g.M.Machine.Step l.machine) l.slots l.fn.configs.items l.slot l.done l.layer.items
    l.left × AllPairs (λ a b. ¬ (IsSame a b)) l.layer.items

abbrev pub decreases-loop-left : goal.decreases-loop-left
decreases-loop-left g l = l.left
