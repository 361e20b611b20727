use Rattle.history_logs.proofs.Reports.{counts_more}
use Rattle.history_logs.proofs.logs.check_with.Goals as goal

pub returns-in_err-reading-clause-progress : goal.returns-in_err-reading-clause-progress
returns-in_err-reading-clause-progress g c =
    counts_more _ _ _ c.find_conforming.ensures.progress c.read_log.ensures.progress

pub returns-in_err-verdict-2-clause-progress : goal.returns-in_err-verdict-2-clause-progress
returns-in_err-verdict-2-clause-progress g c =
    counts_more _ _ _ c.find_conforming.ensures.progress c.read_log.ensures.progress

pub returns-clause-progress : goal.returns-clause-progress
returns-clause-progress g c =
    counts_more _ _ _ c.find_conforming.ensures.progress c.read_log.ensures.progress
