use Rattle.history_logs.proofs.Needing.{idle_call}
use Rattle.history_logs.proofs.logs.needed.is_idle.Goals as goal

pub returns : goal.returns
returns c said =
    idle_call _ _ _ c.requires c.index-calls-number.is (c.changes_nothing.ensures said)
