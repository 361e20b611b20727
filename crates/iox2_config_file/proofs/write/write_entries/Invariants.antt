use Rattle.std.proofs.Common.{◌≡◌, ◌++◌, drop, string_bytes}
use Rattle.iox2_config_file.specs.Settings.{settings_in}
use Rattle.iox2_config_file.specs.Write.{entries_text}
use Rattle.iox2_config_file.proofs.write.write_entries.Given as goal

abbrev pub invariant-loop-index : goal.invariant-loop-index
invariant-loop-index l =
    let defaults = settings_in l.section l.default in
    let xs = settings_in l.section l.config in
    string_bytes l.out
    ++ entries_text (drop l.index l.rows) (drop l.index defaults) (drop l.index xs)
    ≡ string_bytes l.initial.out ++ entries_text l.rows defaults xs
