use Rattle.service_conformance.proofs.Names.{First, Second, service_of}
use Rattle.service_conformance.proofs.Given.{gives_ports}
use Rattle.service_conformance.proofs.conformance.service_check.ServiceCheck.give_ports.Goals as goal

pub invariant_of-self : goal.invariant_of-self
invariant_of-self c =
    (gives_ports (service_of c.self.inside) c.self.invariant First c.args.role c.args.used
    c.give_used.result c.give_used.new.self (rw c.if-first.true at c.in-Some.ensures.some)
    c.give_used.ensures).1

pub returns-then-first-clause-kept : goal.returns-then-first-clause-kept
returns-then-first-clause-kept c = invariant_of-self c

pub invariant_of-self-2 : goal.invariant_of-self-2
invariant_of-self-2 c =
    (gives_ports (service_of c.self.inside) c.self.invariant Second c.args.role c.args.used
    c.give_used-2.result c.give_used-2.new.self (rw c.if-first.false at c.in-Some.ensures.some)
    c.give_used-2.ensures).1

pub returns-clause-kept : goal.returns-clause-kept
returns-clause-kept c = invariant_of-self-2 c
