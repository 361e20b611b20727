use Rattle.std.proofs.Common.{◌≡◌, ◌∙◌, true, sym, arith}
use Rattle.std.proofs.lemmas.Option.{slice_get-get_or}
use Rattle.iox2_config_file.specs.Settings.{settings_in}
use Rattle.iox2_config_file.specs.Write.{value_view, value_fits}
use Rattle.iox2_config_file.proofs.Rowed.{misfits_past, misfits_fit, misfits_here}
use Rattle.iox2_config_file.proofs.write.misfit_in.Goals as goal
use Rattle.iox2_config_file.proofs.write.misfit_in.Goals.{in-Some+else-not-fits, in_default}

pub returns-then-not-fits : goal.returns-then-not-fits
returns-then-not-fits c =
    let row = slice_get-get_or c.rows-rows.result.now c.loop-index.index in
    grind (arith, misfits_here)

pub loop-index-preserved : goal.loop-index-preserved
loop-index-preserved c =
    let xs = settings_in c.args.section c.args.config.now in
    elim c.match-value_at.branch [
      | in-Some+else-not-fits w ↦
          let fits : value_fits (value_view w.in-Some.value) ≡ true = cc in
          misfits_fit xs c.loop-index.index _ (sym w.in-Some.ensures) fits ∙ c.loop-index.invariant
      | in_default w ↦
          misfits_past xs c.loop-index.index (sym w.in_default.ensures) ∙ c.loop-index.invariant
    ]
