use Rattle.std.proofs.Common.{◌≡◌, drop}
use Rattle.service_conformance.specs.Judged.{ids_lacking}
use Rattle.service_conformance.proofs.conformance.watched.lacking.Given as goal

abbrev pub invariant-loop-look : goal.invariant-loop-look
invariant-loop-look l =
    ids_lacking (drop l.look-index l.looks) l.start ≡ ids_lacking l.looks l.start
