use Rattle.std.proofs.Common.{◌≡◌, ◌++◌, drop}
use Rattle.std.specs.Prelude.{flat_map}
use Rattle.settings_check.specs.Found.{AreCompared, ValidFile, pair_view, reports_of, table_differences, valid_view}
use Rattle.settings_check.proofs.found.add_differences.Given as goal

abbrev pub invariant-loop-section : goal.invariant-loop-section
invariant-loop-section l =
    let files : ValidFile × ValidFile = (valid_view l.first, valid_view l.second) in
    let said = flat_map (table_differences files) in
    (pair_view l.files ≡ files) × AreCompared l.files
    × (reports_of l.reports.items ++ said (drop l.section-index l.sections)
    ≡ reports_of l.initial.reports.items ++ said l.sections)
