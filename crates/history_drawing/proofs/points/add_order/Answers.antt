use Rattle.std.proofs.Common.{List, [], ◌∷◌, ◌++◌, ap, append_assoc, ◌∙◌}
use Rattle.history_drawing.proofs.Rising.{first_points, one_more}
use Rattle.history_drawing.specs.declared.timeline.Point.{Point}
use Rattle.history_drawing.proofs.points.add_order.Goals as goal

pub returns-in_default : goal.returns-in_default
returns-in_default c =
    let (ps, is, far) = c.loop-line.invariant in (
      ps,
      is,
      first_points c.args.bars.now c.args.order.now c.loop-line.line-index ps c.loop-line.before
          far c.in_default.ensures.none,
    )

pub loop-line-preserved : goal.loop-line-preserved
loop-line-preserved c =
    let (ps, is, far) = c.loop-line.invariant in
    let p = c.in-Some.point in (
      ps ++ p ∷ [],
      c.in_ok-push.ensures.items
          ∙ (ap (λ (l : List Point). l ++ p ∷ []) is
          ∙ append_assoc c.args.points.now.items ps (p ∷ [])),
      one_more c.args.bars.now c.args.order.now c.loop-line.line-index ps c.loop-line.before far p
          c.loop-line-test.true c.in-Some.ensures.point c.in-Some.ensures.follows
          c.in-Some.ensures.part,
    )
