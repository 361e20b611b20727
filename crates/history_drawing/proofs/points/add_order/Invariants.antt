use Rattle.std.proofs.Common.{◌≡◌, List, ◌++◌}
use Rattle.history_drawing.proofs.Rising.{SoFar}
use Rattle.history_drawing.specs.declared.timeline.Point.{Point}
use Rattle.history_drawing.proofs.points.add_order.Given as goal

abbrev pub invariant-loop-line : goal.invariant-loop-line
invariant-loop-line l =
    (ps : List Point) × (l.points.items ≡ l.fn.points.items ++ ps)
    × SoFar l.bars l.order l.line-index ps l.before
