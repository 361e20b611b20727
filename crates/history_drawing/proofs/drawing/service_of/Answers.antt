use Rattle.std.proofs.Common.{◌≡◌, ◌+◌, arith, inr, refl, rules}
use Rattle.history_drawing.proofs.Begins.{elsewhere_more}
use Rattle.history_drawing.proofs.drawing.service_of.Goals as goal

pub loop-line-preserved : goal.loop-line-preserved
loop-line-preserved c =
    elsewhere_more c.args.lines.now c.args.first (c.args.refused + 1) c.args.refused
    c.loop-line.line c.loop-line.invariant (rw c.in_default.is at c.in_ok-call.ensures.none)

pub returns : goal.returns
returns c =
    inr (
      λ k from upto. c.loop-line.invariant k from (omega (arith, upto, c.loop-line-test.false)),
      refl,
    )

pub returns-in_default : goal.returns-in_default
returns-in_default c =
    let same : c.loop-line.line ≡ c.args.refused = search rules in
    inr (
      λ k from upto.
          elsewhere_more c.args.lines.now c.args.first (c.args.refused + 1) c.args.refused
          c.loop-line.line c.loop-line.invariant (rw c.in_default.is at c.in_ok-call.ensures.none) k
          from (rw same upto),
      refl,
    )
