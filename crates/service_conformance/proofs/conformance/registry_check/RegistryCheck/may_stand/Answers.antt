use Rattle.service_conformance.proofs.Names.{All, ap, subst, sym, ◌∙◌, IsBefore}
use Rattle.service_conformance.proofs.conformance.registry_check.RegistryCheck.may_stand.Goals as goal

pub returns-then-ticket-self-clause-no : goal.returns-then-ticket-self-clause-no
returns-then-ticket-self-clause-no g c m =
    c.are_before.ensures.no
    (subst (λ l. All (IsBefore c.args.slot c.args.ticket) l)
    (sym (c.deref.ensures.value ∙ ap (λ r. r.entries) c.self.view_is)) m.before)
