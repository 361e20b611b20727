-- What a size promises for the blocks of memory that have it.
use Rattle.std.specs.Prelude.{ℕ, ◌+◌, ◌*◌, ◌^◌, ◌<◌, IsTrue}
use Rattle.std.specs.Int.{◌∣◌, is_power_of_two}
use Rattle.iox2_config.specs.Compatible.{Compatible}
use Rattle.iox2_config.specs.Layout.{payload_offset, payload_part, parts, element}
use Rattle.iox2_config.specs.Parts.{Part, IsAligned, Within, Apart, Holds}
use Rattle.iox2_config.specs.declared.types.message_details.MessageTypeDetails.{MessageTypeDetails}

-- an opener that may use the service's messages: its alignments are powers of two, and its details
-- are compatible to the service's
pub record MayOpen (opener service : MessageTypeDetails) : Type 0 where
  pub header_power : IsTrue (is_power_of_two opener.header.alignment)
  pub user_header_power : IsTrue (is_power_of_two opener.user_header.alignment)
  pub payload_power : IsTrue (is_power_of_two opener.payload.alignment)
  pub compatible : Compatible opener service

-- a block of this size holds a message of n elements whose header lies at the block's start: the
-- payload's address has 64 bits, the parts are aligned for the service and for every opener, and so
-- is each element where its size allows that
pub record HoldsMessage (d : MessageTypeDetails) (n size header : ℕ) : Type 0 where
  pub offset_fits : payload_offset d header < 2 ^ 64
  pub own : Holds header size (parts d d header n)
  pub openers : (o : MessageTypeDetails) → MayOpen o d → Holds header size (parts d o header n)
  pub elements : (o : MessageTypeDetails) → MayOpen o d → o.payload.alignment ∣ o.payload.size
      → (i : ℕ) → i < n →
      IsAligned (element d o header i) × Within (payload_part d o header n) (element d o header i)

-- block i of those that lie end to end from `header` on
abbrev pub block : MessageTypeDetails → ℕ → ℕ → ℕ → Part
block d size header i =
    record {
      start = header + i * size;
      end = header + (i + 1) * size;
      alignment = d.header.alignment;
    }

-- each block of this size that starts at a multiple of the header's alignment holds a message of n
-- elements, and so do blocks that lie end to end, of which no two share a byte
pub record HoldsEverywhere (d : MessageTypeDetails) (n size : ℕ) : Type 0 where
  pub alone : (header : ℕ) → d.header.alignment ∣ header → header + size < 2 ^ 64
      → HoldsMessage d n size header
  pub in_rows : (header count : ℕ) → d.header.alignment ∣ header → header + count * size < 2 ^ 64 →
      (i : ℕ) → i < count → HoldsMessage d n size (header + i * size)
  pub apart : (header i j : ℕ) → i < j → Apart (block d size header i) (block d size header j)
