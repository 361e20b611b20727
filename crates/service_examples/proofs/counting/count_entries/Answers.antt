use Rattle.std.proofs.Common.{rules, ◌^◌, arith}
use Rattle.std.proofs.lemmas.List.{length-map}
use Rattle.iox2_container.specs.Steps.{listed}
use Rattle.iox2_container.proofs.Callable.{CanVisit-counting, tallied_visit}
use Rattle.service_examples.proofs.counting.count_entries.Goals as goal

pub for_each-requires : goal.for_each-requires
for_each-requires g c =
    let registry = (g.R.Registry.state c.args.registry.now).registry in
    CanVisit-counting _ _ (λ q. q.0.now) (2 ^ 64) (λ q x i. λ y e. search rules)
    (λ q x h e. search rules) _ (listed registry)
    (omega (arith, c.len-bound.ensures.count, length-map registry.entries (λ e. e.details)))

pub returns : goal.returns
returns g c =
    let registry = (g.R.Registry.state c.args.registry.now).registry in
    let t = tallied_visit _ (λ q. q.0.ghost_name) (λ q. q.0.now)
    (λ q x r v e. search rules) _ _ c.for_each.new.f c.for_each.ensures.visit in
    search (rules, t.0, t.1, length-map registry.entries (λ e. e.details))
