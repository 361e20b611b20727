use Rattle.iox2_container.proofs.Prelude.{AreOthers, map, shown, ◌+◌, ◌-◌, ◌≡◌, ◌≤◌}
use Rattle.iox2_container.proofs.container.queries.has_between.Given as goal

abbrev pub invariant-loop-slot : goal.invariant-loop-slot
invariant-loop-slot g l = record {
  order : l.start ≤ l.slot;
  within : l.slot ≤ l.end;
  looks : l.looks.count + l.slot ≡ l.fn.looks.count + l.end;
  others : AreOthers g.T.Attached.node l.node (map shown l.slots.cells) l.slot l.end;
}

abbrev pub decreases-loop-slot : goal.decreases-loop-slot
decreases-loop-slot g l = l.slot - l.start
