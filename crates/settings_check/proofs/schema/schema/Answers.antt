use Rattle.settings_check.proofs.Lists.{six}
use Rattle.settings_check.proofs.schema.schema.Goals as goal

pub returns : goal.returns
returns c =
    let (rows, is, object) = c.in_ok-write_object.ensures in
    let (others, now, are) = c.in_ok-write_definitions.ensures in (
      rows,
      others,
      is,
      are,
      six _ _ _ _ _ _ _ _ _ _ _ _ c.in_ok-out.ensures.ok object c.in_ok-push_str.ensures.bytes
          now c.in_ok-push_str-2.ensures.bytes c.in_ok-push_str-3.ensures.bytes,
    )
