use Rattle.config_report.proofs.Prelude.{◌≡◌, ◌++◌, drop, string_bytes, map, flat_map, file_line, kind_view}
use Rattle.config_report.proofs.text.write_kinds.Given as goal

abbrev pub invariant-loop-kind : goal.invariant-loop-kind
invariant-loop-kind l =
    string_bytes l.out ++ flat_map (file_line l.prefix) (map kind_view (drop l.kind-index l.kinds))
    ≡ string_bytes l.initial.out ++ flat_map (file_line l.prefix) (map kind_view l.kinds)
