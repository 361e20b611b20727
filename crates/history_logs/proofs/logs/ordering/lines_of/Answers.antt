use Rattle.history_logs.proofs.Judgements.{begins_more}
use Rattle.history_logs.proofs.logs.ordering.lines_of.Goals as goal

pub loop-call-preserved : goal.loop-call-preserved
loop-call-preserved c =
    begins_more _ _ _ _ _ c.loop-call.invariant c.loop-call-test.true
    (c.requires c.loop-call.call-index 0 c.loop-call-test.true) c.in_ok-push.ensures.items
