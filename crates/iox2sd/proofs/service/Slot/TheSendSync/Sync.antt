-- A `&` to a slot may be sent to another thread, since the slot may.
use denote.Param.Send.{IsSync, part_keyless}
use Rattle.iox2sd.proofs.service.Slot.TheSendSync.Send.{send}
use Rattle.iox2sd.specs.contracts.service.Slot.{the_row}

pub sync : IsSync the_row
sync = record { shared = λ d b o κ q. part_keyless the_row send q d b o }
