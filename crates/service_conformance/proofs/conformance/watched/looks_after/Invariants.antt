use Rattle.service_conformance.proofs.Names.{◌≡◌, take, looks_after}
use Rattle.service_conformance.proofs.conformance.watched.looks_after.Given as goal

abbrev pub invariant-loop-look : goal.invariant-loop-look
invariant-loop-look l = l.left.items ≡ looks_after l.service (take l.look-index l.looks)
