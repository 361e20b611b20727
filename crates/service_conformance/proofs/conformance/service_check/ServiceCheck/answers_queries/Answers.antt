use Rattle.service_conformance.proofs.Names.{service_of}
use Rattle.service_conformance.proofs.Calls.{can_ask}
use Rattle.service_conformance.proofs.conformance.service_check.ServiceCheck.answers_queries.Goals as goal

pub returns-clause-asked : goal.returns-clause-asked
returns-clause-asked c =
    rw (← c.self.view_is) (λ command handles. can_ask (service_of c.self.inside) handles command
    c.can_list.ensures c.can_list-2.ensures c.can_list-3.ensures)
