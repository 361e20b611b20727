use Rattle.std.proofs.Common.{rules}
use Rattle.service_conformance.proofs.Registries.{only_gone}
use Rattle.service_conformance.proofs.conformance.registry_check.RegistryCheck.remove.Goals as goal

pub invariant_of-self : goal.invariant_of-self
invariant_of-self g c =
    (only_gone _ c.args.self.now c.args.handle c.in-Some.position c.args.mode _
    c.len-before.result _ _ c.self.view_is c.self.invariant c.in-Some.ensures.some
    c.remove.ensures.items (search rules) (search rules) c.lock_after-self-inside.ensures).0

pub returns : goal.returns
returns g c =
    (only_gone _ c.args.self.now c.args.handle c.in-Some.position c.args.mode _
    c.len-before.result _ _ c.self.view_is c.self.invariant c.in-Some.ensures.some
    c.remove.ensures.items (search rules) (search rules) c.lock_after-self-inside.ensures).1
