use Rattle.std.proofs.Common.{◌≡◌, map, take}
use Rattle.service_conformance.proofs.conformance.service_check.replies_possible.ids_of.Given as goal

abbrev pub invariant-loop-item : goal.invariant-loop-item
invariant-loop-item g l = l.ids.items ≡ map g.T.Attached.number (take l.item-index l.items)
