use Rattle.std.proofs.Common.{◌≡◌, ◌++◌, true, drop, string_bytes}
use Rattle.settings_check.specs.Schema.{properties}
use Rattle.settings_check.proofs.schema.write_properties.Given as goal

abbrev pub invariant-loop-row : goal.invariant-loop-row
invariant-loop-row l =
    string_bytes l.out ++ properties l.section l.is_first (drop l.row-index l.rows)
    ≡ string_bytes l.initial.out ++ properties l.section true l.rows
