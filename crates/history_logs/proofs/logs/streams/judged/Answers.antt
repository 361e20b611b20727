use Rattle.history_logs.proofs.Reports.{counts_more}
use Rattle.history_logs.proofs.logs.streams.judged.Goals as goal

pub returns-clause-progress : goal.returns-clause-progress
returns-clause-progress g c = counts_more _ _ _ c.verdict_on-found.ensures.progress c.end.ensures
