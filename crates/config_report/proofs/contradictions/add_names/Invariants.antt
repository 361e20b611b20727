use Rattle.config_report.proofs.Prelude.{◌≡◌, ◌++◌, drop, flat_map, map, contradiction_view, long_name, suffix_view}
use Rattle.config_report.proofs.contradictions.add_names.Given as goal

abbrev pub invariant-loop-kind : goal.invariant-loop-kind
invariant-loop-kind l =
    map contradiction_view l.list.items
    ++ flat_map (long_name l.prefix) (map suffix_view (drop l.kind-index l.kinds))
    ≡ map contradiction_view l.initial.list.items
    ++ flat_map (long_name l.prefix) (map suffix_view l.kinds)
