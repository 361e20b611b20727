use Rattle.history_drawing.proofs.Rising.{orders_next}
use Rattle.history_drawing.proofs.points.points_of.Goals as goal

pub loop-order-preserved : goal.loop-order-preserved
loop-order-preserved c =
    orders_next c.args.bars.now c.args.orders.now c.loop-order.order-index c.order-item.result
    c.deref.result.now c.loop-order.points.items c.add_order.new.points.items
    c.loop-order-test.true c.order-item.is c.deref.ensures.value c.loop-order.invariant
    c.in_ok-add_order.ensures
