-- Registries may be sent to another thread, if their details may.
use Rattle.iox2_container.proofs.Prelude.{rules}
use denote.RattleType.{RattleType}
use denote.Enum.Declared as enum
use denote.Enum.Enum.{Enum}
use denote.Struct.Field.{u64-field}
use denote.Param.Send.{IsSend, enum_send, owning_send, recorded_send, sendable}
use Rattle.std.proofs.Crossing.{crosses}
use Rattle.std.specs.contracts.option.Option as Option
use Rattle.std.specs.contracts.prelude.OptionDebug.TheImpl as OptionDebug
use Rattle.std.specs.contracts.prelude.UsizeDebug.TheImpl as UsizeDebug
use Rattle.std.specs.declared.clone.Clone.{Ghosts as CloneGhosts}
use Rattle.std.specs.declared.fmt.Debug.{Ghosts as DebugGhosts}
use Rattle.iox2_container.specs.contracts.container.slot_map.slots.Cell as Cell
use Rattle.iox2_container.specs.contracts.container.free.FreeList as FreeList
use Rattle.iox2_container.specs.contracts.container.free.FreeListSlotAllocator.TheImpl as FreeListSlotAllocator
use Rattle.iox2_container.specs.contracts.container.slot_map.SlotMap as SlotMap
use Rattle.iox2_container.specs.contracts.container.counted_map.CountedMap.TheInside as Inside
use Rattle.iox2_container.specs.contracts.container.slot_map.slots.Slots as Slots
use Rattle.iox2_container.specs.contracts.container.slot_map.Touches as Touches
use Rattle.iox2_container.specs.declared.container.free.SlotAllocator.{Ghosts as SlotAllocatorGhosts}

Touches-send : IsSend Touches.the_row
Touches-send = owning_send Touches.the_type tt (λ d. tt) (λ k x w. tt)

pub Slots-send : (C : RattleType) → IsSend C → IsSend (Slots.the_row C)
Slots-send C s = search (crosses, sendable, Touches-send) depth 20

Cell-send : (T N : RattleType) → IsSend T → IsSend N → IsSend (Cell.the_row T N)
Cell-send T N t n =
    recorded_send (Enum (enum.shape (Cell.the_type T N))) _ _ ((Cell.the_type T N).to_one)
    (enum_send (enum.shape (Cell.the_type T N)) ((n, tt), ((search sendable, (t, tt)), tt)))

-- any slot map
module _ (T S N : RattleType) (slots : SlotAllocatorGhosts S.Denot T.Denot N.Denot)
    (debug : DebugGhosts N.Denot) where
  inside_send : IsSend T → IsSend S → IsSend N → IsSend (Inside.the_row T S N slots debug)
  inside_send t s n = search (crosses, sendable, Slots-send, Cell-send) depth 30

  pub SlotMap-send : IsSend T → IsSend S → IsSend N → IsSend (SlotMap.the_row T S N slots debug)
  SlotMap-send t s n = search (crosses, sendable, inside_send) depth 30

-- that of a free list
pub ListContainer-send : (T : RattleType) (clone : CloneGhosts T.Denot) → IsSend T
    → IsSend (SlotMap.the_row T FreeList.the_row (Option.the_row u64-field.row)
    (FreeListSlotAllocator.ghosts T clone FreeListSlotAllocator.no_dict)
    (OptionDebug.ghosts u64-field.row UsizeDebug.ghosts OptionDebug.no_dict))
ListContainer-send T clone s = search (rules, sendable, SlotMap-send) depth 20
