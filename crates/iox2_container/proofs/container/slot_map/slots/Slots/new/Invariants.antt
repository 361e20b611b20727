use Rattle.iox2_container.proofs.Prelude.{replicate, vec_capacity, vec_len, ◌≡◌}
use Rattle.iox2_container.proofs.container.slot_map.slots.Slots.new.Given as goal

abbrev pub invariant-loop : goal.invariant-loop
invariant-loop g l = record {
  cells : l.cells.items ≡ replicate l.counter l.fill;
  len : vec_len l.cells ≡ l.counter;
  room : vec_capacity l.cells ≡ l.fn.capacity;
}
