use Rattle.service_conformance.proofs.Names.{AreGivenBelow}
use Rattle.service_conformance.proofs.conformance.seen_call.SeenCall.follow_add.Given as goal

abbrev pub invariant-loop-slot : goal.invariant-loop-slot
invariant-loop-slot l = AreGivenBelow l.self l.state l.part l.slot l.found.items
