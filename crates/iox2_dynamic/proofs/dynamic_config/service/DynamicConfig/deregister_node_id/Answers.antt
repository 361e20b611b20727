use Rattle.std.proofs.Common.{sym, ◌∙◌}
use Rattle.iox2_container.proofs.Keeping.{not_foreign}
use Rattle.iox2_dynamic.proofs.Keeping.{leaving_kept}
use Rattle.iox2_dynamic.proofs.dynamic_config.service.DynamicConfig.deregister_node_id.Goals as goal

pub unreachable-requires : goal.unreachable-requires
unreachable-requires c =
    not_foreign c.self.inside.nodes.registry c.args.handle c.in-Some.id c.in-Some.ensures.details
    c.in-Err.ensures.removes.step.0

pub invariant_of-self : goal.invariant_of-self
invariant_of-self c =
    leaving_kept _ _ c.args.handle c.in-Some.id c.in-Some.ensures.details
    (sym c.is_last_of_ports.ensures ∙ c.if-is_last_of_ports.false)
    c.in-Ok.ensures.removes.step.0 c.in-Ok.ensures.removes.kept c.self.invariant

pub returns-clause-kept : goal.returns-clause-kept
returns-clause-kept c = invariant_of-self c
