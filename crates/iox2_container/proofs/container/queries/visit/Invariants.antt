use Rattle.iox2_container.proofs.Prelude.{CalledAt, MayVisit, TakesAt, Visits, map, shown, ◌+◌, ◌≡◌}
use Rattle.iox2_container.proofs.Passes.{details_from}
use Rattle.iox2_container.proofs.container.queries.visit.Given as goal

abbrev pub invariant-loop-slot : goal.invariant-loop-slot
invariant-loop-slot g l = record {
  callable : MayVisit (TakesAt g.F.FnMut) (CalledAt g.F.FnMut) l.f
      (details_from l.slot (map shown l.slots.cells));
  visits : (left : g.row.F.Denot)
      → Visits (CalledAt g.F.FnMut) l.f (details_from l.slot (map shown l.slots.cells)) left
      → Visits (CalledAt g.F.FnMut) l.fn.f (details_from 0 (map shown l.slots.cells)) left;
  looks : l.looks.count ≡ l.fn.looks.count + l.slot;
}
