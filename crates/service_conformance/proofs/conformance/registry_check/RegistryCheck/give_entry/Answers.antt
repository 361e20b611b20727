use Rattle.service_conformance.proofs.Names.{refl, rules, subst, sym, IsRegistry, slot_entry}
use Rattle.service_conformance.proofs.Given.{last_is, stands_is, stands_only}
use Rattle.service_conformance.proofs.conformance.registry_check.RegistryCheck.give_entry.Goals as goal

pub returns-then-not-may_stand-clause-gives : goal.returns-then-not-may_stand-clause-gives
returns-then-not-may_stand-clause-gives g c = (
  λ other so.
      let t =
      c.may_stand.ensures.no
      (stands_only c.args.self.now c.args.slot c.args.ticket c.args.details
      (subst IsRegistry so.0 so.1)) in
      let f = c.if-not-may_stand.true in
      absurd (cc),
  refl,
)

pub invariant_of-self-2 : goal.invariant_of-self-2
invariant_of-self-2 g c =
    let r = c.args.self.now in
    subst IsRegistry
    (sym (last_is _ r (slot_entry c.args.slot c.args.ticket c.args.details) _ c.self.view_is
    c.in_ok-push.ensures.items))
    (stands_is r c.args.slot c.args.ticket c.args.details
    (subst IsRegistry c.self.view_is c.self.invariant) (search rules))

pub returns-clause-gives : goal.returns-clause-gives
returns-clause-gives g c = (
  last_is _ c.args.self.now (slot_entry c.args.slot c.args.ticket c.args.details) _ c.self.view_is
      c.in_ok-push.ensures.items,
  invariant_of-self-2 g c,
)
