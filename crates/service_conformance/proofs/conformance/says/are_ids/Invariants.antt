use Rattle.std.proofs.Common.{length, ◌-◌, ◌≡◌, ◌≤◌, map}
use Rattle.service_conformance.proofs.Names.{flat_map, ◌↔◌, id_word}
use Rattle.service_conformance.proofs.Seen.{AreAlike}
use Rattle.service_conformance.proofs.conformance.says.are_ids.Given as goal

abbrev pub invariant-loop-at : goal.invariant-loop-at
invariant-loop-at g l = record {
  items : l.at ≤ length l.items;
  ids : l.at ≤ length l.ids;
  same : (flat_map id_word (map g.T.Attached.number l.items) ≡ flat_map id_word l.ids)
      ↔ AreAlike g.T.Attached.number l.items l.ids l.at;
}

abbrev pub decreases-loop-at : goal.decreases-loop-at
decreases-loop-at g l = length l.items - l.at
