use Rattle.iox2_container.proofs.Prelude.{candidates, entries_from, is_of, length, map, shown, take, ◌+◌, ◌≡◌, ◌≤◌}
use Rattle.iox2_container.proofs.container.queries.count_of.Given as goal

abbrev pub invariant-loop-slot : goal.invariant-loop-slot
invariant-loop-slot g l = record {
  count : l.count
      ≡ length (candidates (is_of g.T.Attached.node l.node)
      (entries_from 0 (take l.slot (map shown l.slots.cells))));
  few : l.count ≤ l.slot;
  looks : l.looks.count ≡ l.fn.looks.count + l.slot;
}
