-- Ids as C sees them.
use Rattle.std.specs.Prelude.{◌≡◌, ◌≢◌, ℕ, ◌+◌, ◌<◌, ◌≤◌, List, length, Option, Some, None, Result, Ok, Err}
use Rattle.iox2_ids.specs.Packing.{ReadsNumber, packed, process_of, seconds_of, nanoseconds_of, counter_of, hexadecimal}
use Rattle.iox2sd_common.specs.declared.id.Id.{Id}
use Rattle.iox2sd_common.specs.declared.status.Status.{Status}
use Rattle.iox2sd_common.specs.declared.status.Status.TheVariants as status

-- the number that the parts make
abbrev pub number_of : Id → ℕ
number_of id = packed id.process id.seconds id.nanoseconds id.counter

-- the parts of a number
abbrev pub id_of : ℕ → Id
id_of n =
    record {
      process = process_of n;
      seconds = seconds_of n;
      nanoseconds = nanoseconds_of n;
      counter = counter_of n;
    }

-- the number of the node of these parts, or that they are those of none
abbrev pub ReadsNode : Id → Option ℕ → Type 0
ReadsNode id (Some node) = (id.process + id.counter ≢ 0) × (node ≡ number_of id)
ReadsNode id None = id.process + id.counter ≡ 0

-- the id whose number a text writes, or why it writes that of none: its length is looked at first
abbrev pub ReadsText : List ℕ → Result Id Status → Type 0
ReadsText text (Ok id) = hexadecimal (number_of id) ≡ text
ReadsText text (Err status.Empty) = length text ≡ 0
ReadsText text (Err status.TooLong) = 32 < length text
ReadsText text (Err status.IllegalByte) =
    (0 < length text) × (length text ≤ 32) × ReadsNumber text None
ReadsText text (Err _) = ⊥
