use Rattle.histories.proofs.Leaving.{rest_none}
use Rattle.histories.proofs.needed.one_by_one.Goals as goal

pub loop-event-init : goal.loop-event-init
loop-event-init g c =
    rw (c.in_ok-left_out.ensures.items_if_clones_equal (λ y same. same))
    (rest_none _ _ _ _ c.requires.refused)
