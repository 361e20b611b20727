use Rattle.std.proofs.Common.{arith, rules}
use Rattle.history_drawing.proofs.Rising.{none_after}
use Rattle.history_drawing.proofs.points.next_point.Goals as goal

pub returns-then-not-reaches-clause-none : goal.returns-then-not-reaches-clause-none
returns-then-not-reaches-clause-none c = λ few p below.
    none_after c.args.bars.now c.in-Some.bar.now c.args.line c.point_after-point.result.line
    c.requires.rising c.in-Some.ensures.some.0 c.in-Some.ensures.some.1
    (c.reaches.ensures.no (search rules)) p
    (λ begun.
    let line = c.point_after-point.ensures.follows.line in
    grind (arith, line))
