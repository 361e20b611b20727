use Rattle.iox2_container.proofs.Prelude.{arith, length-map, shown}
use Rattle.iox2_container.proofs.Keeping.{kept_write, add_step}
use Rattle.iox2_container.proofs.container.counted_map.CountedMap.add.Goals as goal

pub invariant_of-self : goal.invariant_of-self
invariant_of-self g c = (
  kept_write c.put-slot.result c.args.details c.self.invariant.0 c.put-slot.ensures.free
      c.put-slot.ensures.cells c.if-self.false c.if-self-2.false,
  c.put-slot.ensures.fits,
)

pub returns-clause-adds : goal.returns-clause-adds
returns-clause-adds g c = rw (← c.self.view_is) (record {
  step = rw c.from_parts.ensures (add_step c.put-slot.result c.args.details c.self.invariant.0
      c.put-slot.ensures.free c.put-slot.ensures.cells c.if-self.false c.if-self-2.false);
  kept = (invariant_of-self g c).0.registry;
  touched = (
    omega (arith, c.put-slot.ensures.touched, length-map c.self.inside.slots.cells shown),
    c.put-slot.ensures.counted,
  );
})
