use Rattle.service_conformance.proofs.conformance.seen_call.SeenCall.possible.Goals as goal

pub returns-clause-possible : goal.returns-clause-possible
returns-clause-possible c = rw (← c.self.view_is) c.possible_for.ensures.possible
