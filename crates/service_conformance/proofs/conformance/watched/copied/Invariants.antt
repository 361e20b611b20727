use Rattle.std.proofs.Common.{◌≡◌, take}
use Rattle.service_conformance.proofs.conformance.watched.copied.Given as goal

abbrev pub invariant-loop-look : goal.invariant-loop-look
invariant-loop-look l = l.copy.items ≡ take l.look-index l.looks
