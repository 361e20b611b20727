use Rattle.iox2_container.proofs.Prelude.{None, Some, map, shown, slice_get, ℕ, ◌+◌, ◌<◌, ◌≡◌, ◌≢◌}
use Rattle.iox2_container.proofs.container.free.LowestFreeSlotAllocator.put.Given as goal

abbrev pub invariant-loop-slot : goal.invariant-loop-slot
invariant-loop-slot g l = record {
  cells : l.slots.cells ≡ l.fn.slots.cells;
  touches : l.slots.touches ≡ l.fn.slots.touches + l.slot;
  taken : (k : ℕ) → k < l.slot → slice_get (map shown l.fn.slots.cells) k ≢ Some None;
}
