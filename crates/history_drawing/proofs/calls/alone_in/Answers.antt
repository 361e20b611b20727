use Rattle.std.proofs.Common.{◌∙◌, sym}
use Rattle.log_lines.specs.Lines.{line_seen}
use Rattle.history_drawing.proofs.Begins.{no_above, other_above}
use Rattle.history_drawing.proofs.calls.alone_in.Goals as goal

pub returns-in_default-clause-none : goal.returns-in_default-clause-none
returns-in_default-clause-none c =
    let read = rw c.in_default.is at c.in_ok-read.ensures in
    no_above c.args.lines.now c.args.line
    (λ l p e. read l p (c.text_above-command.ensures ∙ e))

pub returns-in_default-called-clause-none : goal.returns-in_default-called-clause-none
returns-in_default-called-clause-none c =
    let read = rw c.in-Some.is at c.in_ok-read.ensures in
    other_above c.args.lines.now c.args.line (line_seen c.in-Some.read) read.0
    (sym c.text_above-command.ensures ∙ read.1) c.in_default-called.ensures.none
