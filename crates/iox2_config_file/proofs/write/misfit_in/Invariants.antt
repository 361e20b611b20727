use Rattle.std.proofs.Common.{◌≡◌, drop}
use Rattle.std.specs.List.{filter_map}
use Rattle.iox2_config_file.specs.Settings.{settings_in}
use Rattle.iox2_config_file.proofs.Rowed.{misfit}
use Rattle.iox2_config_file.proofs.write.misfit_in.Given as goal

abbrev pub invariant-loop-index : goal.invariant-loop-index
invariant-loop-index l =
    filter_map misfit (drop l.index (settings_in l.section l.config))
    ≡ filter_map misfit (settings_in l.section l.config)
