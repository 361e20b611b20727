use Rattle.std.proofs.Common.{take}
use Rattle.history_drawing.specs.Timelines.{ArePoints}
use Rattle.history_drawing.proofs.points.points_of.Given as goal

abbrev pub invariant-loop-order : goal.invariant-loop-order
invariant-loop-order l = ArePoints l.bars (take l.order-index l.orders) l.points.items
