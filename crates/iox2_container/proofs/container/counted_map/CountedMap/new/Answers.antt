use Rattle.iox2_container.proofs.Keeping.{new_kept, new_is_fresh}
use Rattle.iox2_container.proofs.container.counted_map.CountedMap.new.Goals as goal

pub invariant_of-result : goal.invariant_of-result
invariant_of-result g c = (
  new_kept c.args.service c.args.role c.args.tickets c.args.capacity c.in_ok-slots.slots.cells _
      c.in_ok-slots.ensures.cells,
  rw c.in_ok-slots.ensures.cells (c.all_free-free.ensures c.args.capacity),
)

pub returns : goal.returns
returns g c =
    new_is_fresh c.args.service c.args.role c.args.tickets c.args.capacity
    c.in_ok-slots.slots.cells _ c.in_ok-slots.ensures.cells c.in_ok-slots.slots.touches
    c.in_ok-slots.ensures.touches
