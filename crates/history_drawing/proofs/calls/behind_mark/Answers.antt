use Rattle.std.proofs.Common.{◌∷◌, ◌∙◌, sym}
use Rattle.line_streams.specs.Numerals.{cons_same}
use Rattle.history_drawing.proofs.Begins.{behind_first, no_byte}
use Rattle.history_drawing.proofs.calls.behind_mark.Goals as goal

pub returns-in_default : goal.returns-in_default
returns-in_default c = λ front other no is.
    absurd (no_byte 62 c.args.text.now front (32 ∷ other) c.in_default.ensures.none is)

pub returns-in-Some-after_word : goal.returns-in-Some-after_word
returns-in-Some-after_word c = λ front other no is.
    let read = c.in-Some.ensures.read in
    (cons_same (sym c.in-Some-after_word.ensures.some
    ∙ behind_first 62 c.args.text.now c.in-Some.field-0-0.now c.in-Some.rest.now front
    (32 ∷ other) read.0 no read.1 is)).1

pub returns-in-None : goal.returns-in-None
returns-in-None c = λ front other no is.
    let read = c.in-Some.ensures.read in
    absurd (c.in-None.ensures.none other
    (behind_first 62 c.args.text.now c.in-Some.field-0-0.now c.in-Some.rest.now front
    (32 ∷ other) read.0 no read.1 is))
