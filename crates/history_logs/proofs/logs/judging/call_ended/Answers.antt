use Rattle.history_logs.proofs.Refusing.{no_other}
use Rattle.history_logs.proofs.logs.judging.call_ended.Goals as goal

pub unreachable-requires : goal.unreachable-requires
unreachable-requires c =
    no_other _ _ _ _ c.events.ensures c.requires.ended c.in-Begin.is
