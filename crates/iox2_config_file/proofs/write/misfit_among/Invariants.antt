use Rattle.std.proofs.Common.{◌≡◌, drop}
use Rattle.std.specs.Prelude.{flat_map}
use Rattle.iox2_config_file.specs.Write.{located_misfits}
use Rattle.iox2_config_file.proofs.write.misfit_among.Given as goal

abbrev pub invariant-loop-section : goal.invariant-loop-section
invariant-loop-section l =
    let found = flat_map (located_misfits l.config) in
    found (drop l.section-index l.sections) ≡ found l.sections
