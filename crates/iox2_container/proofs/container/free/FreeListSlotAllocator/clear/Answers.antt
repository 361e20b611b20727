use Rattle.iox2_container.proofs.Prelude.{arith, rules}
use Rattle.iox2_container.proofs.FreeList.{threaded_clear, clears_first}
use Rattle.iox2_container.proofs.container.free.FreeListSlotAllocator.clear.Goals as goal

pub returns-clause-fits : goal.returns-clause-fits
returns-clause-fits g c = grind (arith, threaded_clear)

pub returns-clause-freed : goal.returns-clause-freed
returns-clause-freed g c = search (rules, clears_first)
