use Rattle.std.proofs.Common.{rules, ◌≡◌, ◌+◌, ◌<◌, ◌^◌, length, arith}
use Rattle.std.proofs.lemmas.List.{length-map}
use Rattle.iox2_container.specs.Steps.{listed}
use Rattle.iox2_container.proofs.Callable.{CanVisit-counting}
use Rattle.services_tests.proofs.examples.counting.count_handles.Goals as goal

pub list_node_ids-requires : goal.list_node_ids-requires
list_node_ids-requires c =
    let registry = c.args.service.now.nodes.registry in
    CanVisit-counting _ _ (λ q. q.0.now) (2 ^ 64) (λ q x i. λ y e. search rules)
    (λ q x h e. search rules) _ (listed registry)
    (omega (
      arith,
      c.number_of_nodes-bound.ensures.count,
      length-map registry.entries (λ e. e.details),
    ))
