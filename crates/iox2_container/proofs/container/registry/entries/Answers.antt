use Rattle.iox2_container.proofs.Prelude.{arith, length-map, listed, map-id, rules, ◌∙◌}
use Rattle.iox2_container.proofs.Callable.{all_listed, room_to_put}
use Rattle.iox2_container.proofs.container.registry.entries.Goals as goal

pub for_each-requires : goal.for_each-requires
for_each-requires g c =
    let registry = (g.R.Registry.state c.args.registry.now).registry in
    room_to_put _ (λ q. q.0.ghost_name) (λ q. q.0.now) (λ x. x) (λ q x r v e. search rules) _
    (λ q x i. λ y e. search rules) _ (listed registry)
    (omega (
      arith,
      c.in_ok-list.ensures.len,
      c.in_ok-list.ensures.exact,
      c.len.ensures.count,
      length-map registry.entries (λ e. e.details),
      length-map (listed registry) (λ x. x),
    ))

pub returns : goal.returns
returns g c =
    let registry = (g.R.Registry.state c.args.registry.now).registry in
    let t = all_listed _ (λ q. q.0.ghost_name) (λ q. q.0.now) (λ x. x) (λ q x r v e. search rules) _
    (listed registry) c.for_each.new.f c.for_each.ensures.visit c.in_ok-list.ensures.items
    (omega (
      arith,
      c.in_ok-list.ensures.exact,
      c.len.ensures.count,
      length-map registry.entries (λ e. e.details),
    )) in
    record {
      listed = search (rules, t.0, t.1 ∙ map-id (listed registry));
      exact = search (rules, t.0, t.2);
    }
