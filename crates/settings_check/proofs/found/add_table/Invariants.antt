use Rattle.std.proofs.Common.{◌≡◌, ◌++◌, drop}
use Rattle.std.specs.Prelude.{flat_map}
use Rattle.config_report.specs.Text.{value_pairs}
use Rattle.settings_check.specs.Found.{pair_view, reports_of, setting_differences, table_differences}
use Rattle.settings_check.proofs.found.add_table.Given as goal

abbrev pub invariant-loop-index : goal.invariant-loop-index
invariant-loop-index l =
    let was = l.initial.files in
    let files = pair_view was in
    (l.files ≡ was)
    × (reports_of l.reports.items
    ++ flat_map (setting_differences files l.section)
    (drop l.index (value_pairs files.0.config files.1.config l.section))
    ≡ reports_of l.initial.reports.items ++ table_differences files l.section)
