use Rattle.std.proofs.Common.{get_or, length, ℕ, ◌+◌, ◌-◌, ◌≡◌}
use Rattle.history_logs.proofs.logs.callers.make_room.Given as goal

abbrev pub invariant-loop-counts : goal.invariant-loop-counts
invariant-loop-counts l = (k : ℕ) → get_or l.counts.items k 0 ≡ get_or l.fn.counts.items k 0

abbrev pub decreases-loop-counts : goal.decreases-loop-counts
decreases-loop-counts l = l.at + 1 - length l.counts.items
