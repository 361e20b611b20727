use Rattle.std.proofs.Common.{rules, refl, sym, ◌∙◌}
use Rattle.service_conformance.proofs.Words.{none_free, none_next, one_next}
use Rattle.service_conformance.proofs.conformance.registry_check.RegistryCheck.handle_at.Goals as goal

pub returns-in_default : goal.returns-in_default
returns-in_default g c =
    none_free c.args.self.now _ (search rules) (search rules) c.args.slot c.args.ticket
    (search rules) (search rules) refl c.in_default.ensures.none

pub returns-then-ticket : goal.returns-then-ticket
returns-then-ticket g c =
    none_next c.args.self.now _ (search rules) (search rules) c.args.slot c.args.ticket
    (search rules) (search rules) refl c.in-Some.handle c.in-Some.ensures.some.1
    (λ e. c.if-ticket.true (c.ticket.ensures ∙ e))

pub returns : goal.returns
returns g c =
    one_next c.args.self.now _ (search rules) (search rules) c.args.slot c.args.ticket
    (search rules) (search rules) refl c.in-Some.handle c.in-Some.ensures.some.0
    c.in-Some.ensures.some.1 (sym c.ticket.ensures ∙ c.if-ticket.false)
