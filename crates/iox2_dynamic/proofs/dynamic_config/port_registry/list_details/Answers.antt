use Rattle.std.proofs.Common.{sym, subst}
use Rattle.std.specs.Fn.{CalledAt, TakesAt}
use Rattle.iox2_dynamic.proofs.Names.{CanVisit, Visit, listed}
use Rattle.iox2_container.proofs.Callable.{CanVisit-lent}
use Rattle.iox2_container.proofs.Mapped.{Visit-lent, listed-as}
use Rattle.iox2_dynamic.proofs.dynamic_config.port_registry.list_details.Goals as goal

pub for_each-requires : goal.for_each-requires
for_each-requires g c =
    CanVisit-lent _ _ (TakesAt g.F.FnMut) (CalledAt g.F.FnMut) (λ s. s.0.now) g.T.PortKind.details
    (λ s x t y e. subst (λ d. TakesAt g.F.FnMut s.0.now (g.T.PortKind.details d)) (sym e) t)
    (λ s x h e. subst
    (λ d. CalledAt g.F.FnMut s.0.now (g.T.PortKind.details d) _ h.0.now) e.shows
    e.called.met.1.0) _ (listed c.args.ports.now.registry)
    (subst (λ l. CanVisit (TakesAt g.F.FnMut) (CalledAt g.F.FnMut) c.args.f.now l)
    (listed-as g.T.PortKind.details c.args.ports.now.registry.entries) c.requires)

pub returns : goal.returns
returns g c =
    let t = Visit-lent _ (CalledAt g.F.FnMut) (λ s. s.0.now) g.T.PortKind.details
    (λ s. s.0.ghost_name)
    (λ s x b u e. (
      e.called.met.0,
      subst (λ d. CalledAt g.F.FnMut s.0.now (g.T.PortKind.details d) b u.0.now) e.shows
          e.called.met.1.0,
    )) _ (listed c.args.ports.now.registry) c.for_each.new.f c.for_each.ensures.visit in
    rw (c.f-1.given.1 (sym t.0))
    (subst (λ l. Visit (CalledAt g.F.FnMut) c.args.f.now l c.for_each.new.f.0.now)
    (sym (listed-as g.T.PortKind.details c.args.ports.now.registry.entries)) t.1)
