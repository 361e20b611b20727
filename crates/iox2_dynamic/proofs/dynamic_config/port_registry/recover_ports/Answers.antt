use Rattle.std.proofs.Common.{map, rules, refl, sym, ◌∙◌, ap, subst}
use Rattle.std.proofs.lemmas.Simd.{map-map}
use Rattle.std.specs.Prelude.{◌==◌}
use Rattle.std.specs.Fn.{Called, Takes}
use Rattle.iox2_dynamic.proofs.Names.{CanBeCalled, details_where, is_of, CallsCleanup, node_of, port_of}
use Rattle.iox2_container.proofs.Callable.{CanBeCalled-lent}
use Rattle.iox2_container.proofs.Mapped.{RecoversBy-lent, called-as}
use Rattle.iox2_dynamic.proofs.Recoveries.{RecoversPorts-as, left_noted}
use Rattle.iox2_dynamic.proofs.dynamic_config.port_registry.recover_ports.Goals as goal

pub recover-requires : goal.recover-requires
recover-requires g c =
    let calls : g.row.F.Denot → _ → _ → g.row.F.Denot → Type 0 =
    λ f x r h. Called g.F.FnMut f (x, tt) r h in
    let takes : g.row.F.Denot → _ → Type 0 = λ f x. Takes g.F.FnMut f (x, tt) in
    let details = g.T.PortKind.details in
    let dead = c.args.dead.now in
    let entries = c.args.ports.now.registry.entries in
    let items = details_where (is_of g.T.Attached.node dead) c.args.ports.now.registry in
    let seen =
    ap (map port_of)
    (called-as details (is_of g.T.Attached.node dead) (is_of node_of dead)
    (λ x. ap (λ n. n == dead) (g.met.T.PortKind.same_node x)) entries)
    ∙ map-map port_of details items in
    CanBeCalled-lent _ _ takes calls (λ s. s.0.now) (λ d. port_of (details d))
    (λ s x t y e. subst (λ d. takes s.0.now (port_of (details d))) (sym e) t)
    (λ s x r h e. let a = subst
    (λ d. CallsCleanup calls s.0.now (port_of (details d)) r h.0.now) e.shows e.called.met.1.0
    in (a.0, a.1)) _ items
    (subst (λ l. CanBeCalled takes calls c.args.f.now l) seen c.requires)

pub returns : goal.returns
returns g c =
    let calls : g.row.F.Denot → _ → _ → g.row.F.Denot → Type 0 =
    λ f x r h. Called g.F.FnMut f (x, tt) r h in
    let called : g.row.F.Denot → _ → _ → g.row.F.Denot → Type 0 =
    λ h d goes h'. CallsCleanup calls h (port_of (g.T.PortKind.details d)) goes h' in
    let t = RecoversBy-lent _ called (λ s. s.0.now) (λ s. s.0.ghost_name)
    (λ s x b u e.
    (e.called.met.0.0, subst (λ d. called s.0.now d b u.0.now) e.shows e.called.met.1.0))
    _ _ _ _ _ _ _ c.recover.ensures.recovers in
    let n = left_noted _ (λ s. s.1.ghost_name) (λ s. s.1.now)
    (λ s x b u e. (e.called.met.0.1, e.called.met.1.1.0)) g.T.PortKind.details _
    g.met.T.PortKind.same_node _ _ _ _ _ _ _ refl c.recover.ensures.recovers.step in
    rw (c.f-1.given.1 (sym t.0)) (record {
      recovered =
          RecoversPorts-as calls g.T.PortKind.details _ g.met.T.PortKind.same_node _ _ _ _ _ _ t.1;
      left = search (rules, n.0, n.1);
    })
