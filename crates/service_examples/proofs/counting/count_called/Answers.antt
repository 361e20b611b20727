use Rattle.std.proofs.Common.{rules, ◌^◌, arith}
use Rattle.std.proofs.lemmas.List.{length-map}
use Rattle.iox2_container.specs.Steps.{details_where, candidates, is_of}
use Rattle.iox2_container.proofs.Callable.{CanBeCalled-counting, tallied}
use Rattle.service_examples.proofs.DeadNodes.{all_stay}
use Rattle.service_examples.proofs.counting.count_called.Goals as goal

pub recover-requires : goal.recover-requires
recover-requires g c =
    let registry = (g.R.Registry.state c.args.registry.now).registry in
    let is_dead = is_of g.T.Attached.node c.args.node.now in
    CanBeCalled-counting _ _ (λ q. q.0.now) (2 ^ 64) (λ q x i. λ y e. search rules)
    (λ q x r h e. search rules) _ (details_where is_dead registry)
    (omega (arith, length-map (candidates is_dead registry.entries) (λ e. e.details)))

pub returns-clause-count : goal.returns-clause-count
returns-clause-count g c =
    let registry = (g.R.Registry.state c.args.registry.now).registry in
    let is_dead = is_of g.T.Attached.node c.args.node.now in
    let t = tallied _ (λ q. q.0.ghost_name) (λ q. q.0.now)
    (λ q x r v e. search rules) _ _ _ c.recover.new.f c.recover.ensures.recovers.step.called in
    search (rules, t.0, t.1, length-map (candidates is_dead registry.entries) (λ e. e.details))

pub returns-clause-kept : goal.returns-clause-kept
returns-clause-kept g c = all_stay _ _ (λ q x r v e. search rules) _ _ _ _ _
    c.recover.ensures.recovers.step
