use Rattle.iox2_container.proofs.Prelude.{arith, length-map, map, shown}
use Rattle.iox2_container.proofs.CellEntries.{full_from}
use Rattle.iox2_container.proofs.container.free.LowestFreeSlotAllocator.put.Goals as goal

pub unreachable-requires : goal.unreachable-requires
unreachable-requires g c =
    omega (
      arith,
      full_from 0 (map shown c.args.slots.now.cells)
          (λ k l. c.loop-slot.invariant.taken k
          (omega (arith, c.len-slot-end.ensures, length-map c.args.slots.now.cells shown))),
      length-map c.args.slots.now.cells shown,
    )
