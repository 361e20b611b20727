use Rattle.std.proofs.Common.{◌≡◌, ◌++◌, ℕ, List, string_bytes}
use Rattle.iox2_config_file.proofs.Rowed.{Follow}
use Rattle.settings_check.specs.Schema.{IsDefinition}
use Rattle.settings_check.proofs.schema.write_definitions.Given as goal

abbrev pub invariant-loop-section : goal.invariant-loop-section
invariant-loop-section l =
    (done : List ℕ) × (string_bytes l.out ≡ string_bytes l.initial.out ++ done)
    × Follow IsDefinition l.sections l.section-index done
