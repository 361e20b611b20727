use Rattle.std.proofs.Common.{◌∷◌, ◌∙◌, sym}
use Rattle.service_drawing.proofs.Words.{two_fit, two_one}
use Rattle.service_drawing.proofs.reading.message.numbers_in.Goals as goal

pub returns-in_err-first : goal.returns-in_err-first
returns-in_err-first c =
    rw c.from_residual.ensures
    (λ m n rest p q is. c.in_err-first.ensures.read ((m, n), 32 ∷ rest) (two_fit m n rest p q) is)

pub returns-in_err-rest : goal.returns-in_err-rest
returns-in_err-rest c =
    let read = c.in_ok-first.ensures.read in
    rw c.from_residual-in_err-rest.ensures (λ m n rest p q is.
    c.in_err-rest.ensures.none rest
    (two_one.same ((c.in_ok-first.first, c.in_ok-first.second), c.in_ok-first.rest.now)
    ((m, n), 32 ∷ rest) read.0 (two_fit m n rest p q) (sym read.1 ∙ is)).1)
