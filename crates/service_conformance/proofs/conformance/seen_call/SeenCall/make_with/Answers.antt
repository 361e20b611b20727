use Rattle.service_conformance.proofs.conformance.seen_call.SeenCall.make_with.Goals as goal

pub returns-clause-ok : goal.returns-clause-ok
returns-clause-ok c = rw (← c.self.view_is) c.follow_request.ensures.ok
