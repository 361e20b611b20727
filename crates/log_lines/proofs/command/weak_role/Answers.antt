use Rattle.log_lines.proofs.Parts.{no_weak_role}
use Rattle.log_lines.proofs.command.weak_role.Goals as goal

pub returns-in_default-read-clause-none : goal.returns-in_default-read-clause-none
returns-in_default-read-clause-none c =
    no_weak_role c.args.line.now c.in-Some.rest.now c.in-Some.ensures.some
    c.in_default-read.ensures.read
