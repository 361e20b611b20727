use Rattle.config_report.proofs.Prelude.{refl}
use Rattle.config_report.proofs.contradictions.service_controls.Goals as goal

pub returns : goal.returns
returns c =
    rw (
      c.path_control.ensures,
      c.name_control.ensures,
      c.name_control-2.ensures,
      c.name_control-3.ensures,
      c.name_control-4.ensures,
      c.name_control-5.ensures,
      c.name_control-6.ensures,
      c.name_control-7.ensures,
    ) refl
