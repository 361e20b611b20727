-- What a contract sees of the layout of a message.
use Rattle.std.specs.Prelude.{ℕ, ◌<◌, ◌^◌, IsTrue}
use Rattle.std.specs.Int.{is_power_of_two}

-- a block of this many bytes with this alignment
pub record SampleLayoutParts : Type 0 where
  pub size : ℕ
  pub alignment : ℕ

-- a block of at most 2^63 - 1 bytes, at a multiple of a power of two
abbrev pub IsSampleLayout : ℕ → ℕ → Type 0
IsSampleLayout size alignment = (size < 2 ^ 63) × IsTrue (is_power_of_two alignment)
