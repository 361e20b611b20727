use Rattle.std.proofs.Common.{◌≡◌, ◌++◌, drop}
use Rattle.std.specs.Prelude.{map, flat_map}
use Rattle.toml.specs.View.{table_view}
use Rattle.iox2_config.specs.declared.config.Config.{Config}
use Rattle.iox2_config_file.specs.Read.{fault_view, section_faults, sections}
use Rattle.iox2_config_file.specs.Unknown.{section_unknown, unknown_view}
use Rattle.iox2_config_file.proofs.read.wrong_in.Given as goal

abbrev pub invariant-loop-section : goal.invariant-loop-section
invariant-loop-section l = record {
  faults : (c : Config)
      → (let found = flat_map (section_faults c (table_view l.file)) in
      map fault_view l.faults.items ++ found (drop l.section-index sections) ≡ found sections);
  unknown : (c : Config)
      → (let found = flat_map (section_unknown c (table_view l.file)) in
      map unknown_view l.unknown.items ++ found (drop l.section-index sections) ≡ found sections);
}
