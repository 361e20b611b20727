use Rattle.std.proofs.Common.{ap}
use Rattle.log_lines.specs.Commands.{begun_in}
use Rattle.log_lines.specs.Lines.{line_seen}
use Rattle.history_drawing.proofs.calls.begun.Goals as goal

pub returns-in-Begin-clause-some : goal.returns-in-Begin-clause-some
returns-in-Begin-clause-some c = (begun_in c.in-Begin.field-2, ap line_seen c.in-Begin.is)
