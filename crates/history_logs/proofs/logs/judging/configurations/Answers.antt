use Rattle.history_logs.proofs.Refusing.{reported_more}
use Rattle.history_logs.proofs.logs.judging.configurations.Goals as goal

pub loop-config-preserved : goal.loop-config-preserved
loop-config-preserved c = λ x at.
    reported_more _ _ x _ _ _ _ _ _ _ (c.loop-config.invariant x at)
    c.loop-config-test.true c.config-item.is c.in_ok-configuration.ensures at
    c.in_ok-push.ensures.items
