use Rattle.config_report.proofs.Prelude.{◌≡◌, ◌++◌, drop, string_bytes, flat_map, setting_line, table_lines, value_pairs}
use Rattle.config_report.proofs.text.write_table.Given as goal

abbrev pub invariant-loop-index : goal.invariant-loop-index
invariant-loop-index l =
    string_bytes l.out
    ++ flat_map (setting_line l.section) (drop l.index (value_pairs l.config l.default l.section))
    ≡ string_bytes l.fn.out ++ table_lines l.default l.config l.section
