use Rattle.std.proofs.Common.{[], arith, refl, sym, ◌∙◌}
use Rattle.std.specs.Fmt.{decimal}
use Rattle.std.proofs.lemmas.List.{append-nil}
use Rattle.service_drawing.proofs.Words.{nothing_ends}
use Rattle.service_drawing.proofs.reading.words.number.Goals as goal

pub returns-in_err-n : goal.returns-in_err-n
returns-in_err-n c =
    rw c.from_residual.ensures (λ n h is.
    c.in_err-n.ensures.read ((n, tt), []) ((omega (arith, h), h, nothing_ends), refl)
    (is ∙ sym (append-nil (decimal n))))
