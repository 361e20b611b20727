use Rattle.std.proofs.Common.{◌≡◌, drop}
use Rattle.std.specs.List.{find}
use Rattle.iox2_config.specs.declared.config.Config.{Config}
use Rattle.iox2_config_file.specs.Read.{sections}
use Rattle.iox2_config_file.specs.Unknown.{is_wanted, keys_in, wanted_view}
use Rattle.iox2_config_file.proofs.proposal.find_wanted.Given as goal

abbrev pub invariant-loop-section : goal.invariant-loop-section
invariant-loop-section l =
    (c : Config)
    → find (is_wanted (wanted_view l.wanted)) (keys_in c (drop l.section-index sections))
    ≡ find (is_wanted (wanted_view l.wanted)) (keys_in c sections)
