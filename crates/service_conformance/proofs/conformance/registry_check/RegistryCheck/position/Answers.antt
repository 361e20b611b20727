use Rattle.std.proofs.Common.{rules}
use Rattle.service_conformance.proofs.Registries.{stands_at}
use Rattle.service_conformance.proofs.conformance.registry_check.RegistryCheck.position.Goals as goal

pub returns-clause-some : goal.returns-clause-some
returns-clause-some g c =
    stands_at c.args.self.now c.args.handle c.deref.result.now c.slot.result c.ticket.result
    c.in-Some.position (search rules) (search rules) (search rules) (search rules) (search rules)
    c.in-Some.ensures.some
