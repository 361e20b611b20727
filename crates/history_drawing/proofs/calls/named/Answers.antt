use Rattle.std.proofs.Common.{ap, refl}
use Rattle.log_lines.specs.Lines.{line_seen}
use Rattle.history_drawing.proofs.calls.named.Goals as goal

pub returns-in-Service-clause-some : goal.returns-in-Service-clause-some
returns-in-Service-clause-some c = (c.in-Service.service, ap line_seen c.in-Service.is, refl)
