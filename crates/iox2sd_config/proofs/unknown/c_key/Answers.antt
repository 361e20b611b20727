use Rattle.iox2sd_config.proofs.Prelude.{refl}
use Rattle.iox2sd_config.proofs.unknown.c_key.Goals as goal

pub returns : goal.returns
returns c =
    rw (
      c.section_number.ensures,
      c.meant_number.ensures,
      c.line_of.ensures,
      c.column_of.ensures,
      c.cut.ensures,
      c.cut-2.ensures,
      c.as_bytes.ensures.value,
      c.as_bytes-reason.ensures.value,
      c.key_of.ensures,
      c.requires,
    ) refl
