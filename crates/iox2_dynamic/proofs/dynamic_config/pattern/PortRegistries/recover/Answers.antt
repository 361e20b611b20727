use Rattle.std.proofs.Common.{sym}
use Rattle.std.specs.Fn.{Called}
use Rattle.iox2_container.proofs.Callable.{CanBeCalled-first, CanBeCalled-after}
use Rattle.iox2_dynamic.proofs.Names.{CallsCleanup, port_of}
use Rattle.iox2_dynamic.proofs.dynamic_config.pattern.PortRegistries.recover.Goals as goal

pub recover_ports-first-requires : goal.recover_ports-first-requires
recover_ports-first-requires g c =
    CanBeCalled-first _ _ _ _ _ (rw (sym c.self.view_is) at c.requires)

pub recover_ports-second-requires : goal.recover_ports-second-requires
recover_ports-second-requires g c =
    let calls : g.row.F.Denot → _ → _ → g.row.F.Denot → Type 0 =
    λ f x r h. Called g.F.FnMut f (x, tt) r h in
    CanBeCalled-after _ calls (λ f d goes h. CallsCleanup calls f (port_of d) goes h) port_of
    (λ f d goes h a. (a.0, a.1)) _ _ _ _ _ (rw (sym c.self.view_is) at c.requires)
    c.recover_ports-first.ensures.recovered.1.step.called

pub returns-clause-recovered : goal.returns-clause-recovered
returns-clause-recovered g c =
    rw (sym c.self.view_is) (
      c.recover_ports-first.new.f,
      c.recover_ports-first.ensures.recovered,
      c.recover_ports-second.ensures.recovered,
    )
