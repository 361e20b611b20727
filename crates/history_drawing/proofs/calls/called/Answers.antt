use Rattle.std.proofs.Common.{ap}
use Rattle.log_lines.specs.Commands.{named}
use Rattle.log_lines.specs.Lines.{line_seen}
use Rattle.history_drawing.proofs.calls.called.Goals as goal

pub returns-in-Call-clause-some : goal.returns-in-Call-clause-some
returns-in-Call-clause-some c = (named c.in-Call.field-1, ap line_seen c.in-Call.is)
