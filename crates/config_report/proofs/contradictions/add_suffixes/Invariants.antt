use Rattle.config_report.proofs.Prelude.{◌≡◌, ◌++◌, drop, map, contradiction_view, suffix_contradictions, suffix_view}
use Rattle.config_report.proofs.contradictions.add_suffixes.Given as goal

abbrev pub invariant-loop-i : goal.invariant-loop-i
invariant-loop-i l =
    map contradiction_view l.list.items
    ++ suffix_contradictions (map suffix_view (drop l.i l.kinds))
    ≡ map contradiction_view l.initial.list.items
    ++ suffix_contradictions (map suffix_view l.kinds)
