use Rattle.std.proofs.Common.{◌≡◌, List, [], ◌∷◌, Option, Some, None, sym, arith}
use Rattle.std.specs.Prelude.{map, option_map, slice_get}
use Rattle.iox2_config.specs.declared.config.Config.{Config}
use Rattle.iox2_config_file.specs.declared.fault.SettingFault.{SettingFault}
use Rattle.iox2_config_file.specs.Read.{Located, faults_in, fault_view}
use Rattle.iox2_config_file.specs.Answers.{HasNoFault, IsFirstFault}
use Rattle.toml.specs.Data.{Members}
use Rattle.iox2_config_file.proofs.read.settings_of.Goals as goal

-- the first fault of a file, if there is one
abbrev FirstIs : Members → Option Located → Type 0
FirstIs file None = HasNoFault file
FirstIs file (Some fault) = IsFirstFault file fault

first_is : (file : Members) (xs : List SettingFault) (r : Option SettingFault)
    → ((c : Config) → map fault_view xs ≡ faults_in c file) → r ≡ slice_get xs 0
    → FirstIs file (option_map fault_view r)
first_is file [] r all is = grind arith
first_is file (x ∷ xs) r all is = rw is (λ c. (map fault_view xs, sym (all c)))

pub returns-in-Some : goal.returns-in-Some
returns-in-Some c = λ default file all set.
    let first = first_is file c.args.faults.now c.copied.result all cc in
    (fault_view c.in-Some.field-0, rw c.in-Some.is at first)
