use Rattle.history_logs.proofs.Words.{subst, sym}
use Rattle.history_logs.proofs.Needing.{IdleTo, idle_none, idle_push}
use Rattle.history_logs.proofs.logs.needed.idle_calls.Goals as goal

pub loop-number-init : goal.loop-number-init
loop-number-init c =
    subst (IdleTo _ 0) (sym c.new-idle.ensures.items) (idle_none _)

pub loop-number-preserved : goal.loop-number-preserved
loop-number-preserved c =
    idle_push _ _ _ _ _ c.loop-number.invariant c.is_idle.ensures c.in_ok-push.ensures.items
