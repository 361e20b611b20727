use Rattle.std.proofs.Common.{rules}
use Rattle.service_drawing.proofs.Words.{plain_lacks, bad_line}
use Rattle.service_drawing.proofs.reading.words.next_line.Goals as goal

pub returns-in_err-line-clause-line : goal.returns-in_err-line-clause-line
returns-in_err-line-clause-line c =
    rw c.from_residual.ensures
    (λ text rest l. c.in_err-line.ensures.read (text, rest) (plain_lacks text l.plain) l.spelled)

pub returns-then-not-is_plain-clause-line : goal.returns-then-not-is_plain-clause-line
returns-then-not-is_plain-clause-line c =
    let read = c.in_ok-line.ensures.read in
    bad_line c.in_ok-line.line.now c.in_ok-line.rest.now c.args.bytes.now read.0 read.1
    (λ h. search (rules, c.is_plain.ensures))
