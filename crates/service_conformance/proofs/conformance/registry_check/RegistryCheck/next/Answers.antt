use Rattle.std.proofs.Common.{rules}
use Rattle.service_conformance.proofs.Registries.{free_in, not_free}
use Rattle.service_conformance.proofs.conformance.registry_check.RegistryCheck.next.Goals as goal

pub returns-in_default-clause-none : goal.returns-in_default-clause-none
returns-in_default-clause-none g c =
    not_free c.args.self.now c.deref.result.now c.args.slot (search rules) c.in_default.ensures.none

pub returns-clause-some : goal.returns-clause-some
returns-clause-some g c = (
  search rules,
  record {
    service = search rules;
    role = search rules;
    ticket = search rules;
    fits = search rules;
    free = free_in c.args.self.now c.deref.result.now c.args.slot c.from_parts.result.slot
        c.in-Some._position (search rules) (search rules) c.in-Some.ensures.some;
  },
)
