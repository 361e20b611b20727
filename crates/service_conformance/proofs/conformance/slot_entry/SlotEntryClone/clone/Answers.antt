use Rattle.std.proofs.Common.{refl, rules}
use Rattle.service_conformance.proofs.conformance.slot_entry.SlotEntryClone.clone.Goals as goal

pub returns : goal.returns
returns g c = record {
  cases = (
    c.t1-1.inside,
    record { slot = c.in-Ok.field-0; ticket = c.in-Ok-2.field-0; details = c.in-Ok-3.field-0 },
    c.t1-1.view_is,
    refl,
    (c.in-Ok.ensures.cases, (search rules, search rules)),
  );
}
