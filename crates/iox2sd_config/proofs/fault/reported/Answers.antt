use Rattle.iox2sd_config.proofs.Prelude.{refl}
use Rattle.iox2sd_config.proofs.fault.reported.Goals as goal

pub returns : goal.returns
returns c =
    rw (
      c.code.ensures,
      c.line_of.ensures,
      c.column_of.ensures,
      c.cut.ensures,
      c.cut-2.ensures,
      c.as_bytes-key.ensures.value,
      c.as_bytes-reason.ensures.value,
      c.key_of.ensures,
    ) refl
