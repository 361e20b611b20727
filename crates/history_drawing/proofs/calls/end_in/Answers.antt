use Rattle.std.proofs.Common.{[], ◌∙◌, ℕ, ap, arith, length, sym}
use Rattle.line_streams.specs.Numerals.{cons_same}
use Rattle.history_drawing.proofs.Begins.{no_mark}
use Rattle.history_drawing.proofs.calls.end_in.Goals as goal

pub returns-in_default-after_word-2-clause-none : goal.returns-in_default-after_word-2-clause-none
returns-in_default-after_word-2-clause-none c =
    no_mark c.args.text.now c.args.caller.now c.in-Some.rest.now c.args.line
    c.in-Some.ensures.some c.in_default-after_word.ensures.none
    (c.in_default-after_word-2.ensures.none [])

pub returns-then-not-is_empty-clause-none : goal.returns-then-not-is_empty-clause-none
returns-then-not-is_empty-clause-none c =
    no_mark c.args.text.now c.args.caller.now c.in-Some.rest.now c.args.line
    c.in-Some.ensures.some c.in_default-after_word.ensures.none
    (λ e. let n = ap (length {A = ℕ}) (cons_same
    (sym c.in-Some-after_word-2.ensures.some ∙ e)).1 in
    absurd (grind (arith, n, c.if-not-is_empty.true, c.if-not-is_empty.ensures)))
