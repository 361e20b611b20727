use Rattle.iox2_container.proofs.Prelude.{AreOthers, None, map, shown, ◌+◌, ◌-◌, ◌≡◌, ◌≤◌}
use Rattle.iox2_container.proofs.container.passes.next_of.Given as goal

abbrev pub invariant-loop-slot : goal.invariant-loop-slot
invariant-loop-slot g l = record {
  order : l.start ≤ l.slot;
  within : l.slot ≤ l.end;
  nothing : l.found ≡ None;
  cells : l.slots.cells ≡ l.fn.slots.cells;
  touches : l.slots.touches + l.start ≡ l.fn.slots.touches + l.slot;
  others : AreOthers g.T.Attached.node l.node (map shown l.fn.slots.cells) l.start l.slot;
}

abbrev pub decreases-loop-slot : goal.decreases-loop-slot
decreases-loop-slot g l = l.end - l.slot
