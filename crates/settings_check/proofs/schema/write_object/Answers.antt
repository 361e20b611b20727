use Rattle.settings_check.proofs.Lists.{three}
use Rattle.settings_check.proofs.schema.write_object.Goals as goal

pub returns : goal.returns
returns c = (
  c.rows.result.now,
  (c.rows.ensures.keys, c.rows.ensures.lines),
  three _ _ _ _ _ _ _ c.in_ok-push_str.ensures.bytes c.in_ok-write_properties.ensures
      c.in_ok-push_str-2.ensures.bytes,
)
