use Rattle.config_report.proofs.Prelude.{◌≡◌, ◌++◌, drop, flat_map, map, contradiction_view, same_suffix, suffix_view}
use Rattle.config_report.proofs.contradictions.add_same.Given as goal

abbrev pub invariant-loop-other : goal.invariant-loop-other
invariant-loop-other l =
    map contradiction_view l.list.items
    ++ flat_map (same_suffix (suffix_view l.kind)) (map suffix_view (drop l.other-index l.others))
    ≡ map contradiction_view l.initial.list.items
    ++ flat_map (same_suffix (suffix_view l.kind)) (map suffix_view l.others)
