use Rattle.histories.proofs.Words.{◌<◌, ℕ, HasSlot}
use Rattle.histories.proofs.slots.are_free.Given as goal

abbrev pub invariant-loop-slot : goal.invariant-loop-slot
invariant-loop-slot l = (s call : ℕ) → s < l.slot-index → HasSlot l.slots s call → ⊥
