-- The four parts of an id in one number, and how the number is written.
use Rattle.std.specs.Prelude.{◌≡◌, ◌≢◌, ℕ, ◌+◌, ◌*◌, ◌/◌, ◌%◌, ◌^◌, ◌<◌, false, List, Option, Some, None}
use Rattle.std.specs.Fmt.{digits}
use Rattle.iox2_ids.specs.Time.{Moment}

-- the number that the parts make
abbrev pub packed : ℕ → ℕ → ℕ → ℕ → ℕ
packed process seconds nanoseconds counter =
    process * 2 ^ 96 + seconds * 2 ^ 64 + nanoseconds * 2 ^ 32 + counter

-- the process of an id
abbrev pub process_of : ℕ → ℕ
process_of id = id / 2 ^ 96

-- the seconds of an id
abbrev pub seconds_of : ℕ → ℕ
seconds_of id = id / 2 ^ 64 % 2 ^ 32

-- the nanoseconds of an id
abbrev pub nanoseconds_of : ℕ → ℕ
nanoseconds_of id = id / 2 ^ 32 % 2 ^ 32

-- the counter of an id
abbrev pub counter_of : ℕ → ℕ
counter_of id = id % 2 ^ 32

-- when an id was created
abbrev pub time_of : ℕ → Moment
time_of id = record { seconds = seconds_of id; nanoseconds = nanoseconds_of id }

-- the process and the counter of an id in one number
abbrev pub owner_of : ℕ → ℕ
owner_of id = process_of id * 2 ^ 32 + counter_of id

-- a number in lower-case hexadecimal digits without leading zeros
abbrev pub hexadecimal : ℕ → List ℕ
hexadecimal n = digits 16 false n

-- the number below 2^128 that a text writes in hexadecimal, or that it writes none
abbrev pub ReadsNumber : List ℕ → Option ℕ → Type 0
ReadsNumber text (Some n) = (hexadecimal n ≡ text) × (n < 2 ^ 128)
ReadsNumber text None = (n : ℕ) → n < 2 ^ 128 → hexadecimal n ≢ text
