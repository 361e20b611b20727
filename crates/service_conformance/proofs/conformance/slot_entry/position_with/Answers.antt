use Rattle.service_conformance.proofs.Names.{IsFirst-from_position, YieldsList-from_slice, rules, tests, IsAt}
use Rattle.service_conformance.proofs.Registries.{first_at}
use Rattle.service_conformance.proofs.conformance.slot_entry.position_with.Goals as goal

pub returns-clause-some : goal.returns-clause-some
returns-clause-some g c =
    first_at c.args.entries.now c.args.slot c.args.ticket _ _ c.position.result
    (IsFirst-from_position _ _ _ (IsAt c.args.slot c.args.ticket) (λ e. Unit {0})
    c.position.ensures.ran (YieldsList-from_slice c.args.entries.now cc)
    (λ x q k. search (rules, tests)) (λ x q k. search (rules, tests)))
