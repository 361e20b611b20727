use Rattle.iox2_container.proofs.Prelude.{CalledAt, arith, is_of, length-map, map, shown}
use Rattle.iox2_container.proofs.CellEntries.{room_from}
use Rattle.iox2_container.proofs.Keeping.{kept_recover, recovers_none, nothing_left}
use Rattle.iox2_container.proofs.container.counted_map.CountedMap.recover.Goals as goal

pub invariant_of-self : goal.invariant_of-self
invariant_of-self g c = (
  rw c.leave.ensures.left (kept_recover (map shown c.sweep-gone.new.slots.cells) c.args.mode
      c.self.invariant.0 c.sweep-gone.ensures.swept),
  c.sweep-gone.ensures.fits,
)

pub returns-then-self-eq0-clause-recovers : goal.returns-then-self-eq0-clause-recovers
returns-then-self-eq0-clause-recovers g c =
    rw (← c.self.view_is, c.of.ensures) (recovers_none (CalledAt g.F.FnMut)
    (is_of g.T.Attached.node c.args.dead.now) c.args.f.now _ c.args.mode c.self.invariant.0.registry
    (nothing_left _ (omega (arith, c.self.invariant.0.counted, c.if-self-eq0.true))))

pub returns-clause-recovers : goal.returns-clause-recovers
returns-clause-recovers g c = grind (arith, invariant_of-self, room_from, length-map)
