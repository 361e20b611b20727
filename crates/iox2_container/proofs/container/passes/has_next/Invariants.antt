use Rattle.iox2_container.proofs.Prelude.{AreOthers, None, map, shown, ◌+◌, ◌≡◌}
use Rattle.iox2_container.proofs.container.passes.has_next.Given as goal

abbrev pub invariant-loop-i : goal.invariant-loop-i
invariant-loop-i g l = record {
  nothing : l.found ≡ None;
  cells : l.slots.cells ≡ l.fn.slots.cells;
  touches : l.slots.touches ≡ l.fn.slots.touches + l.i;
  others : AreOthers g.T.Attached.node l.node (map shown l.fn.slots.cells) l.start (l.start + l.i);
}
