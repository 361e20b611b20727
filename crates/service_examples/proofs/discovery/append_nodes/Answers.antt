use Rattle.std.proofs.Common.{rules}
use Rattle.iox2_container.specs.Steps.{listed}
use Rattle.service_examples.specs.declared.discovery.Member.TheVariants.{Node}
use Rattle.iox2_container.proofs.Callable.{all_put, room_to_put}
use Rattle.service_examples.proofs.discovery.append_nodes.Goals as goal

pub list_node_ids-requires : goal.list_node_ids-requires
list_node_ids-requires c =
    room_to_put _ (λ q. q.0.ghost_name) (λ q. q.0.now.members) Node (λ q x r v e. search rules) _
    (λ q x i. λ y e. search rules) _ (listed c.args.service.now.nodes.registry) c.requires

pub returns : goal.returns
returns c =
    let t = all_put _ (λ q. q.0.ghost_name) (λ q. q.0.now.members) Node
    (λ q x r v e. search rules) _
    (listed c.args.service.now.nodes.registry) c.list_node_ids.new.f
    c.list_node_ids.ensures.visit in
    search (rules, t.0, t.1)
