use Rattle.config_report.proofs.Prelude.{refl}
use Rattle.config_report.proofs.contradictions.global_controls.Goals as goal

pub returns : goal.returns
returns c =
    rw (
      c.path_control.ensures,
      c.name_control.ensures,
      c.root_path.ensures,
      ← c.global.view_is,
    ) refl
