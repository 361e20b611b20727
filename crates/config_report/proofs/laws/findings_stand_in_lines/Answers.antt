use Rattle.config_report.proofs.Characters.{checks_in_line}
use Rattle.config_report.proofs.laws.findings_stand_in_lines.Goals as goal

pub returns : goal.returns
returns c = checks_in_line
