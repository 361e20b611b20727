use Rattle.log_lines.proofs.Parts.{no_text}
use Rattle.log_lines.proofs.command.read_command.Goals as goal

pub returns-in-None : goal.returns-in-None
returns-in-None c =
    no_text c.args.line.now (rw c.in-None.is at c.in_ok-command.ensures)
    c.in_default.ensures
