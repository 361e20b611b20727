use Rattle.config_report.proofs.Prelude.{refl}
use Rattle.config_report.proofs.laws.defaults_have_no_contradictions.Goals as goal

pub returns : goal.returns
returns c =
    λ config is.
    rw (
      is.global.root_path,
      is.global.prefix,
      is.global.service,
      is.global.node,
      is.defaults,
    ) refl
