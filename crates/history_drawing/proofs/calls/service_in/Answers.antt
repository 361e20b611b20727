use Rattle.std.proofs.Common.{◌∙◌, sym}
use Rattle.log_lines.specs.Lines.{line_seen}
use Rattle.log_lines.specs.Lines.Line.{service}
use Rattle.history_drawing.proofs.Begins.{no_service, where_none}
use Rattle.history_drawing.proofs.calls.service_in.Goals as goal

pub returns-in_default-clause-none : goal.returns-in_default-clause-none
returns-in_default-clause-none c = λ s says.
    let read = rw c.in_default.is at c.in_ok-read.ensures in
    read (service s) says.0 (c.text_at.ensures ∙ says.1)

pub returns-clause-none : goal.returns-clause-none
returns-clause-none c =
    let read = rw c.in-Some.is at c.in_ok-read.ensures in
    where_none c.named.result (no_service c.args.lines.now c.args.line (line_seen c.in-Some.read)
    (read.0, sym c.text_at.ensures ∙ read.1)) c.named.ensures.none
