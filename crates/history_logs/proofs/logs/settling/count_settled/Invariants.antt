use Rattle.history_logs.proofs.Words.{MayFollowAt, ℕ, ◌<◌}
use Rattle.history_logs.proofs.logs.settling.count_settled.Given as goal

abbrev pub invariant-loop-at : goal.invariant-loop-at
invariant-loop-at l = (k : ℕ) → k < l.at → MayFollowAt l.service k
