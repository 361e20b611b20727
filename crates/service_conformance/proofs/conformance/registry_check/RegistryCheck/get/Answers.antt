use Rattle.std.proofs.Common.{◌≡◌, get_or, subst}
use Rattle.service_conformance.proofs.Registries.{has_read}
use Rattle.service_conformance.proofs.conformance.registry_check.RegistryCheck.get.Goals as goal

pub returns-clause-some : goal.returns-clause-some
returns-clause-some g c =
    has_read c.args.self.now c.args.handle c.in-Some.position c.index.result.now c.details.result
    c.in-Some.ensures.some
    (subst (λ s. c.index.result.now ≡ get_or s.entries c.in-Some.position c.index.result.now)
    c.self.view_is
    c.index.ensures) c.details.ensures
