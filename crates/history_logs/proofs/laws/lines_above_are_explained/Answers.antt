use Rattle.history_logs.proofs.Prefixes.{explained_above}
use Rattle.history_logs.proofs.laws.lines_above_are_explained.Goals as goal

pub returns : goal.returns
returns c = explained_above
