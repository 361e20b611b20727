use Rattle.history_logs.proofs.FirstLines.{lines_front}
use Rattle.history_logs.proofs.logs.deciding.first_lines.Goals as goal

pub returns : goal.returns
returns c = lines_front _ _ _ c.after_lines.ensures
