use Rattle.history_logs.proofs.Words.{AreJudged, HasOrders, List, None, Service, [], arith, refl, subst, sym}
use Rattle.history_logs.specs.Logs.{Judged}
use Rattle.history_logs.proofs.Answered.{located_of}
use Rattle.history_logs.proofs.Judgements.{few_calls, judged_bad, judged_conforms, judged_found, no_orders, orders_end}
use Rattle.history_logs.proofs.logs.judge.Goals as goal

pub judge_services-requires : goal.judge_services-requires
judge_services-requires c =
    rw c.deref.ensures.value (record {
      orderly = c.requires.read.orderly;
      located = located_of _ _ _ c.requires.read;
    })

pub end_verdict-requires-clause-few : goal.end_verdict-requires-clause-few
end_verdict-requires-clause-few c =
    let few = few_calls _ _ _ c.requires.read in
    omega arith

pub decide-requires : goal.decide-requires
decide-requires c =
    judged_found _ _ _ _ c.requires.read
    (rw (c.in-Err.is, c.deref.ensures.value) at c.in_ok-orders.ensures.found)

pub returns-in_ok-verdict-in-Err-clause-orders : goal.returns-in_ok-verdict-in-Err-clause-orders
returns-in_ok-verdict-in-Err-clause-orders c =
    λ never. rw c.new-in-Err.ensures.items
    (c.in_ok-verdict-in-Err.ensures.orders (no_orders _ _ _ [] (rw c.in-Err.is
    at c.in_ok-orders.ensures.found) refl))

pub returns-in-Some-clause-judged : goal.returns-in-Some-clause-judged
returns-in-Some-clause-judged c =
    judged_bad _ _ _ _ (rw c.in-Some.is at c.requires.read)
    (subst (λ (ss : List Service). AreJudged c.args.log.now ss None) c.deref.ensures.value
    (rw c.in-Ok.is at c.in_ok-orders.ensures.right))

pub returns-in-None-clause-judged : goal.returns-in-None-clause-judged
returns-in-None-clause-judged c =
    subst (Judged c.args.log.now) (sym c.end_verdict.ensures)
    (judged_conforms _ _ _ _ (rw c.in-None.is at c.requires.read)
    (subst (λ (ss : List Service). AreJudged c.args.log.now ss None) c.deref.ensures.value
    (rw c.in-Ok.is at c.in_ok-orders.ensures.right)) refl refl)

pub returns-in-None-clause-orders : goal.returns-in-None-clause-orders
returns-in-None-clause-orders c =
    λ never.
    let orders = c.in-Ok.orders.items in
    let all = rw (c.in-Ok.is, c.deref.ensures.value)
    at (c.in_ok-orders.ensures.orders never) in
    subst (λ v. HasOrders c.args.log.now v orders) (sym c.end_verdict.ensures)
    (orders_end _ _ orders (rw c.in-None.is at c.requires.read) all)
