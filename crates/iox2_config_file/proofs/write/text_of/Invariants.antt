use Rattle.std.proofs.Common.{◌≡◌, ◌++◌, ℕ, List, string_bytes}
use Rattle.iox2_config_file.specs.Read.{sections}
use Rattle.iox2_config_file.specs.Write.{IsTableText}
use Rattle.iox2_config_file.specs.declared.write.TheConstants.{TITLE}
use Rattle.iox2_config_file.proofs.Rowed.{Follow}
use Rattle.iox2_config_file.proofs.write.text_of.Given as goal

abbrev pub invariant-loop-section : goal.invariant-loop-section
invariant-loop-section l =
    (done : List ℕ) × (string_bytes l.out ≡ TITLE.now ++ done)
    × Follow (IsTableText l.default l.config) sections l.section-index done
