use Rattle.config_report.proofs.Prelude.{◌≡◌, ◌++◌, drop, string_bytes, flat_map, table_lines}
use Rattle.config_report.proofs.text.write_tables.Given as goal

abbrev pub invariant-loop-section : goal.invariant-loop-section
invariant-loop-section l =
    let lines = flat_map (table_lines l.default l.config) in
    string_bytes l.out ++ lines (drop l.section-index l.sections)
    ≡ string_bytes l.initial.out ++ lines l.sections
