-- Services that are borrowed from their objects, and what the objects hold afterwards.
use Rattle.std.specs.Prelude.{Option, Some}
use Rattle.std.specs.Borrow.{Lends, LendsIf, MutBor, Fml}
use Rattle.iox2_dynamic.specs.Service.{Service as Held}
use Rattle.iox2_dynamic.specs.contracts.dynamic_config.service.DynamicConfig as DynamicConfig
use Rattle.iox2sd.specs.declared.service.Service.{Service}
use Rattle.iox2sd.specs.declared.service.Slot.{Slot}
use Rattle.iox2sd.specs.contracts.service.Service as object
use Rattle.iox2sd.specs.contracts.service.Slot as slot

-- the slot with this service
abbrev pub with_service : Slot → Held → Slot
with_service s w = record { at = s.at; service = Some w }

-- the slot holds in the end what the borrow leaves
abbrev pub LendsService : MutBor Slot → MutBor Held → Fml
LendsService s r = Lends slot.the_row DynamicConfig.the_row s r (with_service s.now)

-- the object with this service
abbrev pub with_held : Service → Held → Service
with_held s w = record { full = s.full; slot = with_service s.slot w }

-- the object holds in the end what the borrow leaves, and nothing else of it changes
abbrev pub LendsHeld : MutBor Service → Option (MutBor Held) → Fml
LendsHeld s r = LendsIf object.the_row DynamicConfig.the_row s r (with_held s.now) s.now
