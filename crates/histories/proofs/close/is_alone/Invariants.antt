use Rattle.histories.proofs.Words.{ℕ, ◌<◌, IsBeside}
use Rattle.histories.proofs.close.is_alone.Given as goal

abbrev pub invariant-loop-at : goal.invariant-loop-at
invariant-loop-at g l =
    (at other : ℕ) (new : _) → at < l.at → IsBeside l.slots l.config.waiting l.slot at other
    → ¬ (g.M.Machine.Step l.machine l.config.state other new)
