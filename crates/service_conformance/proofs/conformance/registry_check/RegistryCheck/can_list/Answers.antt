use Rattle.std.specs.Vec.Covariant.{in_vec}
use Rattle.service_conformance.proofs.Names.{refl}
use Rattle.service_conformance.proofs.conformance.registry_check.RegistryCheck.can_list.Goals as goal

pub returns : goal.returns
returns g c = rw (← c.self.view_is) (in_vec (λ e. e.details) c.self.inside.entries, refl)
