use Rattle.std.proofs.Common.{◌≡◌, ◌++◌, drop}
use Rattle.std.specs.Prelude.{map}
use Rattle.std.specs.List.{filter_map}
use Rattle.toml.specs.View.{table_view}
use Rattle.iox2_config_file.specs.Read.{fault_view, row_fault, row_view}
use Rattle.iox2_config_file.proofs.fault.add_faults.Given as goal

abbrev pub invariant-loop-row : goal.invariant-loop-row
invariant-loop-row l =
    let row = row_fault l.section (table_view l.table) in
    map fault_view l.faults.items ++ filter_map row (map row_view (drop l.row-index l.rows))
    ≡ map fault_view l.initial.faults.items ++ filter_map row (map row_view l.rows)
