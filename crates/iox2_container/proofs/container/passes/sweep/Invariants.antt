use Rattle.iox2_container.proofs.Prelude.{CalledAt, TakesAt, is_of, map, shown, ◌+◌, ◌-◌, ◌≡◌, ◌≤◌}
use Rattle.iox2_container.proofs.Passes.{HasSwept}
use Rattle.iox2_container.proofs.container.passes.sweep.Given as goal

abbrev pub invariant-loop-found : goal.invariant-loop-found
invariant-loop-found g l = record {
  within : l.start ≤ l.end;
  fits : g.S.SlotAllocator.fits l.free l.slots.cells;
  so_far : HasSwept (TakesAt g.F.FnMut) (CalledAt g.F.FnMut) (is_of g.T.Attached.node l.dead)
      l.fn.f (map shown l.fn.slots.cells) l.start l.f (map shown l.slots.cells) l.gone;
  touches : l.slots.touches ≡ l.fn.slots.touches + l.start + l.gone;
}

abbrev pub decreases-loop-found : goal.decreases-loop-found
decreases-loop-found g l = l.end - l.start
