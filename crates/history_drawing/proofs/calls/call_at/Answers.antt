use Rattle.std.proofs.Common.{◌∙◌, ◌+◌, rules, sym}
use Rattle.history_drawing.specs.Calls.{Says}
use Rattle.log_lines.specs.Lines.{line_seen}
use Rattle.history_drawing.proofs.Begins.{no_begin, no_call, no_line, where_none}
use Rattle.history_drawing.proofs.calls.call_at.Goals as goal

pub returns-in_default-clause-none : goal.returns-in_default-clause-none
returns-in_default-clause-none c =
    let read = rw c.in_default.is at c.in_ok-read.ensures in
    no_line c.args.lines.now c.args.line (c.args.last + 1)
    (λ l p e. read l p (c.text_at-text.ensures ∙ e))

pub returns-in_default-replied-clause-none : goal.returns-in_default-replied-clause-none
returns-in_default-replied-clause-none c =
    let read = rw c.in-Some.is at c.in_ok-read.ensures in
    no_call c.args.lines.now c.args.line (c.args.last + 1) (line_seen c.in-Some.read)
    (read.0, sym c.text_at-text.ensures ∙ read.1) (search rules) c.in_default-replied.ensures.none

pub returns-clause-none : goal.returns-clause-none
returns-clause-none c =
    let read = rw c.in-Some.is at c.in_ok-read.ensures in
    let words = c.in-Some-replied.words.now in
    let seen : Says c.args.lines.now c.args.line (line_seen c.in-Some.read) =
    (read.0, sym c.text_at-text.ensures ∙ read.1) in
    let says = rw c.in-Some-replied.ensures.some at seen in
    where_none c.in_ok-found.found
    (no_begin c.args.lines.now c.args.line (c.args.last + 1) words says)
    c.in_ok-found.ensures.none
