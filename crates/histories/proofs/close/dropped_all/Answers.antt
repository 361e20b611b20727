use Rattle.histories.proofs.Gathering.{gathers_one}
use Rattle.histories.proofs.close.dropped_all.Goals as goal

pub loop-config-preserved : goal.loop-config-preserved
loop-config-preserved g c =
    gathers_one _ _ _ _ _ _ _ c.loop-config-test.true c.config-item.is c.loop-config.invariant
    c.in_ok-drop_one.ensures
