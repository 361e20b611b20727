use Rattle.service_conformance.specs.ServiceFields.{service_of}
use Rattle.service_conformance.proofs.Given.{gives_nodes}
use Rattle.service_conformance.proofs.conformance.service_check.ServiceCheck.give_nodes.Goals as goal

pub invariant_of-self : goal.invariant_of-self
invariant_of-self c =
    (gives_nodes (service_of c.self.inside) c.self.invariant c.args.used c.args.locked
    c.give_used.result c.give_used.new.self c.give_used.ensures).1

pub returns-clause-kept : goal.returns-clause-kept
returns-clause-kept c = invariant_of-self c
