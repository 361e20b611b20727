use Rattle.service_conformance.proofs.Names.{sym, subst, rules, IsRegistry}
use Rattle.service_conformance.proofs.Registries.{given, with_entry_is}
use Rattle.service_conformance.proofs.conformance.registry_check.RegistryCheck.enter.Goals as goal

pub invariant_of-self-2 : goal.invariant_of-self-2
invariant_of-self-2 g c =
    let r = c.args.self.now in
    subst IsRegistry
    (sym (with_entry_is _ r c.in-Some.position c.args.handle c.args.details _ c.self.view_is
    c.requires.may
    (rw (c.slot-slot.ensures, c.ticket-ticket.ensures) at c.in_ok-insert.ensures.items)))
    (given r c.args.details c.args.handle c.in-Some.position
    (subst IsRegistry c.self.view_is c.self.invariant)
    c.requires.takes c.requires.may (search rules)).1

pub returns-clause-kept : goal.returns-clause-kept
returns-clause-kept g c = invariant_of-self-2 g c
