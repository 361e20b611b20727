use Rattle.std.proofs.Common.{◌++◌, codes, decimal, arith, append_assoc, ap, sym, ◌∙◌}
use Rattle.line_streams.specs.Numerals.{same_number}
use Rattle.log_lines.proofs.line.number_front.Goals as goal

pub returns-in_default-clause-none : goal.returns-in_default-clause-none
returns-in_default-clause-none c number rest fits e =
    c.in_default.ensures.read (number, codes ": " ++ rest) (omega arith, fits, λ digit. omega arith)
    (e ∙ append_assoc (decimal number) (codes ": ") rest)

pub returns-in_default-after_word-clause-none : goal.returns-in_default-after_word-clause-none
returns-in_default-after_word-clause-none c number rest fits e =
    let read = c.in-Some.ensures.read in
    c.in_default-after_word.ensures.none rest
    (same_number c.in-Some.number number c.in-Some.rest.now (codes ": " ++ rest) read.0.1 fits
    read.0.2 (λ digit. omega arith)
    (sym read.1 ∙ (e ∙ append_assoc (decimal number) (codes ": ") rest))).1

pub returns-clause-some : goal.returns-clause-some
returns-clause-some c =
    let read = c.in-Some.ensures.read in (
      read.0.1,
      read.1
          ∙ (ap (λ l. decimal c.in-Some.number ++ l) c.in-Some-after_word.ensures.some
          ∙ sym (append_assoc (decimal c.in-Some.number) (codes ": ")
          c.in-Some-after_word.rest.now)),
    )
