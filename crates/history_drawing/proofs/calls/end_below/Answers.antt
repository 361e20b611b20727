use Rattle.std.proofs.Common.{◌+◌, arith, inr, rules}
use Rattle.history_drawing.proofs.calls.end_below.Goals as goal

pub returns-in-Some : goal.returns-in-Some
returns-in-Some c =
    inr (
      c.loop-above.above + 1,
      omega (arith, c.loop-above.auto.above),
      omega (arith, c.loop-above-test.true),
      search rules,
      c.loop-above.invariant,
    )
