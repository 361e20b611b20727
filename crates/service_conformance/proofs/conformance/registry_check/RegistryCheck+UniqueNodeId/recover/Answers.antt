use Rattle.service_conformance.proofs.Names.{filter, filter_same, not, rules, subst, sym, ℕ, ◌≡◌, Entry, IsRegistry, LockIfLastIndex, is_of}
use Rattle.service_conformance.proofs.Registries.{kept_filter, with_left_is}
use Rattle.service_conformance.proofs.conformance.registry_check.RegistryCheck+UniqueNodeId.recover.Goals as goal

pub returns : goal.returns
returns c =
    let p = λ (e : Entry ℕ). not (is_of (λ i. i) c.args.dead.now e.details) in
    let left : c.retain.new.self.items ≡ filter p c.self.inside.entries.items =
    filter_same _ _ _ (λ x b f' k. search rules) _ _ c.retain.ensures.filtered in
    with_left_is _ c.args.self.now LockIfLastIndex (filter p) _ _ _ _ c.self.view_is left
    (search rules) (search rules) c.lock_after-self-inside.ensures

pub invariant_of-self : goal.invariant_of-self
invariant_of-self c =
    subst IsRegistry (sym (returns c))
    (kept_filter c.args.self.now LockIfLastIndex _
    (subst IsRegistry c.self.view_is c.self.invariant))
