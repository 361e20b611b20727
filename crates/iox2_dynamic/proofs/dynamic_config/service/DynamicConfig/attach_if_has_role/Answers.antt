use Rattle.iox2_dynamic.proofs.Keeping.{attached_kept}
use Rattle.iox2_dynamic.proofs.dynamic_config.service.DynamicConfig.attach_if_has_role.Goals as goal

pub invariant_of-self : goal.invariant_of-self
invariant_of-self c =
    attached_kept _ _ _ _ _ c.attach.ensures.kind c.attach.ensures.some c.attach.ensures.none
    c.self.invariant

pub returns-clause-kept : goal.returns-clause-kept
returns-clause-kept c = invariant_of-self c
