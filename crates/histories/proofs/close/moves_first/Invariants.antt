use Rattle.histories.proofs.Words.{ℕ, ◌<◌, MovesBefore, IsBeside}
use Rattle.histories.proofs.close.moves_first.Given as goal

abbrev pub invariant-loop-at : goal.invariant-loop-at
invariant-loop-at g l =
    (at other : ℕ) → at < l.at → IsBeside l.slots l.waiting l.slot at other
    → MovesBefore (g.M.Machine.Step l.machine) l.call other
