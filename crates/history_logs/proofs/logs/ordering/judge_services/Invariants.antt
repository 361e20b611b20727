use Rattle.history_logs.proofs.Judgements.{OrdersTo}
use Rattle.history_logs.proofs.logs.ordering.judge_services.Given as goal

abbrev pub invariant-loop-service : goal.invariant-loop-service
invariant-loop-service l =
    OrdersTo l.cut l.fn.log l.services l.service-index l.first l.orders.items
