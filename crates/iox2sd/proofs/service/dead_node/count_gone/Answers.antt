use Rattle.iox2sd.proofs.Counting.{fewer, so_many_went}
use Rattle.iox2sd.proofs.service.dead_node.count_gone.Goals as goal

pub overflow_sub-gone : goal.overflow_sub-gone
overflow_sub-gone c =
    (fewer _ _ _ _ _ _ _ c.of-before.ensures c.of-after.ensures c.clean_up-state.ensures).0

pub overflow_sub-gone-2 : goal.overflow_sub-gone-2
overflow_sub-gone-2 c =
    (fewer _ _ _ _ _ _ _ c.of-before.ensures c.of-after.ensures c.clean_up-state.ensures).1

pub returns-clause-went : goal.returns-clause-went
returns-clause-went c =
    so_many_went _ _ _ _ _ _ _ c.of-before.ensures c.of-after.ensures c.clean_up-state.ensures
