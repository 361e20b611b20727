use Rattle.std.proofs.Common.{◌≡◌, map, take}
use Rattle.service_conformance.proofs.conformance.slot_entry.slots_of.Given as goal

abbrev pub invariant-loop-entry : goal.invariant-loop-entry
invariant-loop-entry g l = l.list.items ≡ map (λ e. e.slot) (take l.entry-index l.entries)
