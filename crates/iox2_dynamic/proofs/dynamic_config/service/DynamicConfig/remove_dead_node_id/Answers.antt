use Rattle.std.proofs.Common.{rules, ◌≡◌, true, false, sym, ap}
use Rattle.std.specs.Fn.{Called}
use Rattle.iox2_dynamic.proofs.Names.{PatternKind, release_state, service_in, has_ports_of, Service}
use Rattle.iox2_dynamic.proofs.Keeping.{ports_open, skipped_kept, dead_kept, nodes_stay, nodes_after}
use Rattle.iox2_dynamic.proofs.dynamic_config.service.DynamicConfig.remove_dead_node_id.Goals as goal

pub recover-requires : goal.recover-requires
recover-requires g c = rw (sym c.self.view_is) at c.requires

pub invariant_of-self : goal.invariant_of-self
invariant_of-self g c =
    let calls : g.row.F.Denot → _ → _ → g.row.F.Denot → Type 0 =
    λ f x r h. Called g.F.FnMut f (x, tt) r h in
    skipped_kept calls _ _ _ _ _ _ c.recover.ensures.kind c.recover.ensures.recovered
    c.self.invariant

pub returns-then-recover-clause-kept : goal.returns-then-recover-clause-kept
returns-then-recover-clause-kept g c = invariant_of-self g c

pub returns-then-recover-clause-lock : goal.returns-then-recover-clause-lock
returns-then-recover-clause-lock g c =
    let new : Service = service_in (record c.self.inside { pattern = c.recover.new.self }) in
    let some : has_ports_of c.args.dead.now new.ports ≡ true = search rules in
    sym (ap release_state (ports_open new c.args.dead.now (invariant_of-self g c) some))

pub returns-then-recover-clause-step : goal.returns-then-recover-clause-step
returns-then-recover-clause-step g c =
    let old : Service = service_in c.self.inside in
    let new : Service = service_in (record c.self.inside { pattern = c.recover.new.self }) in
    let some : has_ports_of c.args.dead.now new.ports ≡ true = search rules in
    rw (sym c.self.view_is) (record {
      ports = c.recover.ensures.recovered;
      nodes = nodes_stay _ _ _ some
          (ports_open new c.args.dead.now (invariant_of-self g c) some);
      others = ap (λ (k : PatternKind). record old { pattern = k; ports = new.ports })
          c.recover.ensures.kind;
    })

pub invariant_of-self-2 : goal.invariant_of-self-2
invariant_of-self-2 g c =
    let calls : g.row.F.Denot → _ → _ → g.row.F.Denot → Type 0 =
    λ f x r h. Called g.F.FnMut f (x, tt) r h in
    dead_kept calls _ _ _ _ _ _ _ _ c.recover.ensures.kind c.recover.ensures.recovered
    (search rules) c.recover_nodes.ensures c.self.invariant

pub returns-clause-kept : goal.returns-clause-kept
returns-clause-kept g c = invariant_of-self-2 g c

pub returns-clause-step : goal.returns-clause-step
returns-clause-step g c =
    let old : Service = service_in c.self.inside in
    let new : Service =
    service_in
    (record c.self.inside {
      pattern = c.recover.new.self;
      nodes = c.recover_nodes.new.nodes;
    }) in
    let none : has_ports_of c.args.dead.now new.ports ≡ false = search rules in
    rw (sym c.self.view_is) (record {
      ports = c.recover.ensures.recovered;
      nodes = nodes_after _ _ _ _ _ _ none c.of.ensures c.recover_nodes.ensures;
      others =
          ap (λ (k : PatternKind). record old { pattern = k; ports = new.ports; nodes = new.nodes })
          c.recover.ensures.kind;
    })
