use Rattle.std.proofs.Common.{refl, rules}
use Rattle.service_drawing.specs.Lines.{OfPair, OfKey}
use Rattle.service_drawing.proofs.reading.attributes.requiring.Goals as goal

pub returns-in-Ok : goal.returns-in-Ok
returns-in-Ok c = record {
  each = OfPair (record { key = c.in_ok-key.key; value = c.in_ok-key.value });
  gives = search rules;
  room = c.in-Ok.ensures.variant.0 refl;
  added = (c.in-Ok.ensures.pairs, c.in-Ok.ensures.keys);
}

pub returns-in-Ok-require_key : goal.returns-in-Ok-require_key
returns-in-Ok-require_key c = record {
  each = OfKey c.in_ok-key-2.key;
  gives = search rules;
  room = c.in-Ok-require_key.ensures.variant.0 refl;
  added = c.in-Ok-require_key.ensures.added;
}
