-- A slot may go to another thread: what it owns is a box, of what may go there, which any thread
-- may free.
use Rattle.std.specs.Prelude.{Option, Some, None}
use mir.Raw.{raw}
use base.Shift.{Keyless}
use denote.Memory.{lone}
use denote.RawPtr.{Ptr}
use denote.Struct.Struct.{exits_of}
use denote.Struct.Owning.{shape, fields, to}
use denote.Param.Send.{IsSend, AllSend, owning_send, struct_send, sendable}
use Rattle.std.proofs.Crossing as heap
use Rattle.std_alloc.proofs.SendSync.{quiet, lies}
use Rattle.iox2_dynamic.proofs.Sending.{DynamicConfig-send}
use Rattle.iox2_dynamic.specs.Service.{Service}
use Rattle.iox2_dynamic.specs.contracts.dynamic_config.service.DynamicConfig as DynamicConfig
use Rattle.iox2sd.specs.Slots.{slot_owns}
use Rattle.iox2sd.specs.contracts.service.Slot.{the_row, the_type}

crosses : (at : Ptr) (service : Option Service) → Keyless (slot_owns at service)
crosses at (Some service) = (
  lies DynamicConfig.the_row DynamicConfig-send at service,
  heap.frees.frees (record { memory = record { seal = tt } })
      (raw (lone DynamicConfig.the_row.mir)) at,
)
crosses at None = tt

pub send : IsSend the_row
send =
    let all : AllSend (fields the_type) = (search sendable, tt) in
    owning_send the_type all (λ d. crosses d.at d.service)
    (λ k. quiet (to the_type) (exits_of k (fields the_type))
    ((struct_send (shape the_type) all).leaving k))
