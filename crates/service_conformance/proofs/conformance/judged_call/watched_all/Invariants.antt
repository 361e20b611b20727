use Rattle.service_conformance.proofs.Names.{◌≡◌, map, take, watched}
use Rattle.service_conformance.proofs.conformance.judged_call.watched_all.Given as goal

abbrev pub invariant-loop-service : goal.invariant-loop-service
invariant-loop-service l =
    l.states.items ≡ map (λ s. watched s l.state.looks) (take l.service-index l.services)
