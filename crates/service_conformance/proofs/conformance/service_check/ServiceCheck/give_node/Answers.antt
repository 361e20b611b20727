use Rattle.service_conformance.proofs.Names.{service_of}
use Rattle.service_conformance.proofs.Given.{gives_node}
use Rattle.service_conformance.proofs.conformance.service_check.ServiceCheck.give_node.Goals as goal

pub invariant_of-self : goal.invariant_of-self
invariant_of-self c =
    (gives_node (service_of c.self.inside) c.self.invariant c.args.slot c.args.ticket c.args.id
    c.give_entry.result c.give_entry.new.self c.give_entry.ensures.gives
    c.give_entry.ensures.err).1

pub returns-clause-gives : goal.returns-clause-gives
returns-clause-gives c =
    rw (← c.self.view_is)
    (gives_node (service_of c.self.inside) c.self.invariant c.args.slot c.args.ticket c.args.id
    c.give_entry.result c.give_entry.new.self c.give_entry.ensures.gives
    c.give_entry.ensures.err).0

pub returns-clause-kept : goal.returns-clause-kept
returns-clause-kept c = invariant_of-self c
