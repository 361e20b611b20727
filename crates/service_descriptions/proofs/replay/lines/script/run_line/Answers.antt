use Rattle.std.proofs.Common.{refl}
use Rattle.service_descriptions.proofs.replay.lines.script.run_line.Goals as goal

pub returns-in_default-clause-ok : goal.returns-in_default-clause-ok
returns-in_default-clause-ok c = (
  λ command rest fits e. (rw c.in_default.is at c.in_ok-command.ensures) (command, rest)
      (fits, tt) e,
  refl,
  refl,
)
