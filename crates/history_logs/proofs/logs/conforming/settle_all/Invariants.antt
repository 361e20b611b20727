use Rattle.history_logs.proofs.Words.{StayAll, length, ◌≡◌}
use Rattle.history_logs.proofs.logs.conforming.settle_all.Given as goal

abbrev pub invariant-loop-at : goal.invariant-loop-at
invariant-loop-at l =
    (length l.services ≡ l.at-end) × (length l.fronts.items ≡ l.at-end)
    × StayAll l.fn.services l.fn.fronts.items l.services l.fronts.items
