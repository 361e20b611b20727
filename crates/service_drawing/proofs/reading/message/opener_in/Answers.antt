use Rattle.std.proofs.Common.{rules}
use Rattle.service_drawing.proofs.Words.{same_numbers, no_alignments}
use Rattle.service_drawing.proofs.reading.message.opener_in.Goals as goal

pub returns-in_err-payload-clause-spelled : goal.returns-in_err-payload-clause-spelled
returns-in_err-payload-clause-spelled c =
    rw c.from_residual-in_err-payload.ensures (λ d are is.
    c.in_err-payload.ensures d.payload.alignment are.payload.0
    (same_numbers c.args.text.now c.in_ok-header.header c.in_ok-header.user_header
    d.header.alignment d.user_header.alignment c.in_ok-header.payload.now _ (search rules)
    (search rules) are.header.0 are.user_header.0 (search rules) is).2)

pub returns-in_err-aligned-clause-spelled : goal.returns-in_err-aligned-clause-spelled
returns-in_err-aligned-clause-spelled c =
    rw c.from_residual-in_err-aligned.ensures
    (no_alignments c.args.text.now c.in_ok-header.payload.now c.in_ok-header.header
    c.in_ok-header.user_header c.in_ok-payload.payload (search rules) (search rules)
    (search rules) (search rules) (search rules) (λ all. c.in_err-aligned.ensures all.0))

pub returns-in_err-aligned-2-clause-spelled : goal.returns-in_err-aligned-2-clause-spelled
returns-in_err-aligned-2-clause-spelled c =
    rw c.from_residual-in_err-aligned-2.ensures
    (no_alignments c.args.text.now c.in_ok-header.payload.now c.in_ok-header.header
    c.in_ok-header.user_header c.in_ok-payload.payload (search rules) (search rules)
    (search rules) (search rules) (search rules) (λ all. c.in_err-aligned-2.ensures all.1))

pub returns-in_err-aligned-3-clause-spelled : goal.returns-in_err-aligned-3-clause-spelled
returns-in_err-aligned-3-clause-spelled c =
    rw c.from_residual-in_err-aligned-3.ensures
    (no_alignments c.args.text.now c.in_ok-header.payload.now c.in_ok-header.header
    c.in_ok-header.user_header c.in_ok-payload.payload (search rules) (search rules)
    (search rules) (search rules) (search rules) (λ all. c.in_err-aligned-3.ensures all.2))
