use Rattle.iox2_container.proofs.FreeList.{taken_at}
use Rattle.iox2_container.proofs.container.free.FreeListSlotAllocator.end.Goals as goal

pub returns-clause-free : goal.returns-clause-free
returns-clause-free g c =
    λ slot later taken. c.requires.fresh_are_free slot later taken.0.ticket taken.0.details
    (taken_at c.args.arg2.now.cells slot taken.0.ticket taken.0.details taken.1)
