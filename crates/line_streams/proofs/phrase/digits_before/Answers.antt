use Rattle.std.proofs.Common.{◌≤◌, ◌+◌, ◌*◌, arith, inl, inr}
use Rattle.line_streams.proofs.Fronts.{all_digits, ends_before, ends_there, least_number, next_digit}
use Rattle.line_streams.proofs.phrase.digits_before.Goals as goal
use Rattle.line_streams.proofs.phrase.digits_before.Goals.{else-value-tens-via-then-value-tens+else-digit-ones, else-value-tens-via-else-value-tens}

pub returns-then-digit-gt9 : goal.returns-then-digit-gt9
returns-then-digit-gt9 c =
    all_digits c.args.bytes.now c.loop-b.rest.now c.loop-b.value c.args.most c.loop-b.invariant
    (omega arith) (λ more naught. c.requires.own.0 (omega (arith, c.requires.digit.1, naught)))
    (ends_before c.args.bytes.now c.loop-b.rest.now c.loop-b.value c.args.most c.loop-b.invariant
    c.in-Some.b.now c.in-Some.tail.now c.in-Some.ensures.cases.0
    (c.digit_of-digit.ensures.none c.if-digit-gt9.true))

pub returns : goal.returns
returns c =
    all_digits c.args.bytes.now c.loop-b.rest.now c.loop-b.value c.args.most c.loop-b.invariant
    (omega arith) (λ more naught. c.requires.own.0 (omega (arith, c.requires.digit.1, naught)))
    (ends_there c.loop-b.rest.now 0 (omega (arith, c.in_default.ensures.cases)))

pub returns-then-digit-ones : goal.returns-then-digit-ones
returns-then-digit-ones c a fits e =
    let digit = c.digit_of-digit.ensures.some (omega arith) in
    let least =
    least_number c.args.bytes.now c.loop-b.rest.now c.loop-b.value c.args.most c.loop-b.invariant
    c.in-Some.b.now c.in-Some.tail.now c.in-Some.ensures.cases.0 digit.0 a.0 a.1 fits.1 fits.2 e in
    let small = fits.0 in
    elim c.if-digit-ones.either [
      | inl w ↦ omega (arith, least, digit.1, small, w)
      | inr w ↦ omega (arith, least, digit.1, small, w.1)
    ]

pub loop-b-preserved : goal.loop-b-preserved
loop-b-preserved c =
    let digit = c.digit_of-digit.ensures.some (omega arith) in
    let small : c.loop-b.value * 10 + c.digit_of-digit.result ≤ c.args.most =
    elim c.else-value-tens.branch [
      | else-value-tens-via-then-value-tens+else-digit-ones w ↦
          omega (arith, w.if-digit-ones.false.0, w.if-digit-ones.false.1)
      | else-value-tens-via-else-value-tens w ↦ omega arith
    ] in
    next_digit c.args.bytes.now c.loop-b.rest.now c.loop-b.value c.args.most c.loop-b.invariant
    c.in-Some.b.now c.in-Some.tail.now c.in-Some.ensures.cases.0 _ digit.0
    (omega (arith, digit.1)) small
