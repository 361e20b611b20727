use Rattle.std.proofs.Common.{rules}
use Rattle.service_examples.proofs.DeadNodes.{one_removed}
use Rattle.service_examples.proofs.monitor.remove_dead_node.Goals as goal

pub returns-clause-removed : goal.returns-clause-removed
returns-clause-removed c =
    one_removed _ c.args.service.now _ c.args.dead.now c.remove_dead_node_id.result
    c.remove_dead_node_id.new.self c.remove_dead_node_id.new.f
    c.remove_dead_node_id.ensures.step (λ f x r h e. search rules)
