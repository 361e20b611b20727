use Rattle.std.proofs.Common.{rules, ◌∙◌, sym, arith}
use Rattle.std.proofs.lemmas.List.{length-map}
use Rattle.iox2_dynamic.proofs.Names.{listed}
use Rattle.iox2_container.proofs.Callable.{all_listed, room_to_put}
use Rattle.iox2_container.proofs.Mapped.{listed-as}
use Rattle.iox2_dynamic.proofs.dynamic_config.port_registry.details.Goals as goal

pub for_each-requires : goal.for_each-requires
for_each-requires g c =
    let registry = c.args.ports.now.registry in
    room_to_put _ (λ q. q.0.ghost_name) (λ q. q.0.now) g.T.PortKind.details
    (λ q x r v e. search rules) _ (λ q x i. λ y e. search rules) _ (listed registry)
    (omega (
      arith,
      c.in_ok-list.ensures.len,
      c.in_ok-list.ensures.exact,
      c.len.ensures.count,
      length-map registry.entries (λ e. e.details),
      length-map (listed registry) g.T.PortKind.details,
    ))

pub returns : goal.returns
returns g c =
    let registry = c.args.ports.now.registry in
    let t = all_listed _ (λ q. q.0.ghost_name) (λ q. q.0.now) g.T.PortKind.details
    (λ q x r v e. search rules) _ (listed registry) c.for_each.new.f c.for_each.ensures.visit
    c.in_ok-list.ensures.items
    (omega (
      arith,
      c.in_ok-list.ensures.exact,
      c.len.ensures.count,
      length-map registry.entries (λ e. e.details),
    )) in
    record {
      listed = search (rules, t.0, t.1 ∙ sym (listed-as g.T.PortKind.details registry.entries));
      exact = search (rules, t.0, t.2);
    }
