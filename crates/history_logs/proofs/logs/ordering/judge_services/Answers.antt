use Rattle.history_logs.proofs.Words.{HasEventLines, IsOrderly}
use Rattle.history_logs.proofs.Found.{first_whole, item_of}
use Rattle.history_logs.proofs.Judgements.{orders_all, orders_next, orders_none}
use Rattle.history_logs.proofs.logs.ordering.judge_services.Goals as goal

pub loop-service-init : goal.loop-service-init
loop-service-init c = orders_none _ _ _ _ c.new-orders.ensures.items

pub order_service-requires-clause-orderly : goal.order_service-requires-clause-orderly
order_service-requires-clause-orderly c =
    item_of IsOrderly _ _ _ c.requires.orderly c.loop-service-test.true c.service-item.is

pub order_service-requires-clause-located : goal.order_service-requires-clause-located
order_service-requires-clause-located c =
    item_of (HasEventLines c.args.log.now) _ _
    _ c.requires.located c.loop-service-test.true c.service-item.is

pub loop-service-preserved : goal.loop-service-preserved
loop-service-preserved c =
    orders_next _ _ _ _ _ _ _ _ _ _ c.requires.orderly
    c.requires.located c.loop-service-test.true c.service-item.is c.loop-service.invariant
    c.in_ok-order_service.ensures.found c.in_ok-order_service.ensures.order c.earlier-first.ensures

pub returns-in-Some-clause-found : goal.returns-in-Some-clause-found
returns-in-Some-clause-found c = (
  c.in-Some.field-0-0,
  first_whole _ _ _ _ _ c.loop-service-test.false c.loop-service.invariant.found c.in-Some.is,
)

pub returns-in-None-clause-right : goal.returns-in-None-clause-right
returns-in-None-clause-right c =
    first_whole _ _ _ _ _ c.loop-service-test.false c.loop-service.invariant.found c.in-None.is

pub returns-in-None-clause-orders : goal.returns-in-None-clause-orders
returns-in-None-clause-orders c =
    λ never. orders_all _ _ _ c.loop-service-test.false
    (c.loop-service.invariant.ordered never c.in-None.is)
