use Rattle.histories.proofs.Words.{◌≡◌, ◌≤◌, ◌++◌, length, reverse, read}
use Rattle.histories.proofs.front.order_up_to.Given as goal

abbrev pub invariant-loop-left : goal.invariant-loop-left
invariant-loop-left l =
    (read l.links l.base ≡ read l.links l.left ++ reverse l.order.items) × (l.left ≤ length l.links)

abbrev pub decreases-loop-left : goal.decreases-loop-left
decreases-loop-left l = l.left
