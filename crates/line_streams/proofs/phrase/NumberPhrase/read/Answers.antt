use Rattle.std.proofs.Common.{◌≡◌, ◌∷◌, ◌∙◌, arith, refl, rules, sym}
use Rattle.line_streams.specs.Spelling.{EndsNumber, IsDigit}
use Rattle.std.proofs.Common.{get_or}
use Rattle.line_streams.proofs.Fronts.{ends_there, no_spare_zero, starts_somewhere, starts_with_digit, too_large, zero_found}
use Rattle.line_streams.proofs.phrase.NumberPhrase.read.Goals as goal

pub returns-in_default-clause-read : goal.returns-in_default-clause-read
returns-in_default-clause-read c a fits e =
    let some = starts_somewhere a.0 a.1 c.args.bytes.now fits.1 e in
    omega (arith, some, c.in_default.ensures.cases)

pub returns-then-first-gt9-clause-read : goal.returns-then-first-gt9-clause-read
returns-then-first-gt9-clause-read c a fits e =
    c.digit_of-first.ensures.none c.if-first-gt9.true
    (rw c.in-Some.ensures.cases.0 at (starts_with_digit a.0 a.1 c.args.bytes.now fits.1 e))

pub returns-then-first-most-clause-read : goal.returns-then-first-most-clause-read
returns-then-first-most-clause-read c a fits e =
    let digit = c.digit_of-first.ensures.some (omega arith) in
    let least =
    too_large a.0 a.1 (c.in-Some.b.now ∷ c.in-Some.rest.now) 0 0 fits.1 fits.2
    (sym c.in-Some.ensures.cases.0 ∙ e) (omega arith) tt refl digit.0 in
    let small = fits.0 in
    omega (arith, least, digit.1, small)

pub returns-in_default-rest-clause-read : goal.returns-in_default-rest-clause-read
returns-in_default-rest-clause-read c =
    zero_found c.in-Some.b.now _ c.in-Some.rest.now c.args.bytes.now c.in-Some.ensures.cases.0
    (omega (arith, c.digit_of-first.ensures.some (omega arith)))
    (ends_there c.in-Some.rest.now 0 (omega arith))

pub returns-then-digit_of-le9-clause-read : goal.returns-then-digit_of-le9-clause-read
returns-then-digit_of-le9-clause-read c a fits e =
    let zero : c.in-Some.b.now ≡ 48 = omega (arith, c.digit_of-first.ensures.some (omega arith)) in
    let digit : IsDigit (get_or c.in-Some.rest.now 0 0) = search rules in
    no_spare_zero a.0 a.1 (48 ∷ c.in-Some.rest.now) fits.1 fits.2
    (sym (rw zero at c.in-Some.ensures.cases.0) ∙ e) refl digit

pub returns-clause-read : goal.returns-clause-read
returns-clause-read c =
    let ends : EndsNumber c.in-Some.rest.now = search rules in
    zero_found c.in-Some.b.now _ c.in-Some.rest.now c.args.bytes.now c.in-Some.ensures.cases.0
    (omega (arith, c.digit_of-first.ensures.some (omega arith))) ends
