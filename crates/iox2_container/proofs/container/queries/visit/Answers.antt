use Rattle.iox2_container.proofs.Prelude.{CalledAt, TakesAt, ap, arith, map, refl, shown}
use Rattle.iox2_container.proofs.CellEntries.{nothing_from}
use Rattle.iox2_container.proofs.Passes.{details_of, goes_on, stops, not_stop, visit_at}
use Rattle.iox2_container.proofs.container.queries.visit.Goals as goal

pub show-requires : goal.show-requires
show-requires g c = grind (arith, visit_at)

pub returns-in-Stop-clause-visit : goal.returns-in-Stop-clause-visit
returns-in-Stop-clause-visit g c = record {
  visits = c.loop-slot.invariant.visits c.show.new.f
      (stops (CalledAt g.F.FnMut) c.loop-slot.f c.show.new.f (map shown c.args.slots.now.cells)
      c.loop-slot.slot c.peek_at.result c.peek_at.ensures.cell (rw c.in-Stop.is at c.show.ensures));
}

pub loop-slot-preserved : goal.loop-slot-preserved
loop-slot-preserved g c =
    let cells = map shown c.args.slots.now.cells in
    let called = rw (not_stop c.show.result c.in_default.not-Stop) at c.show.ensures in
    record {
      callable =
          (visit_at (TakesAt g.F.FnMut) (CalledAt g.F.FnMut) c.loop-slot.f cells c.loop-slot.slot
          c.peek_at.result c.peek_at.ensures.cell c.loop-slot.invariant.callable).1 c.show.new.f
          called;
      visits = λ left visits. c.loop-slot.invariant.visits left
          (goes_on (CalledAt g.F.FnMut) c.loop-slot.f c.show.new.f left cells c.loop-slot.slot
          c.peek_at.result c.peek_at.ensures.cell called visits);
      looks = omega (arith, c.peek_at.ensures.looks, c.loop-slot.invariant.looks);
    }

pub returns-clause-visit : goal.returns-clause-visit
returns-clause-visit g c =
    let none = ap details_of (nothing_from c.loop-slot.slot c.loop-slot.slot
    (map shown c.args.slots.now.cells) (λ slot later. c.requires.free slot (omega arith))) in
    record { visits = c.loop-slot.invariant.visits c.loop-slot.f (rw none refl) }
