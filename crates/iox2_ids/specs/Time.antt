-- A time in contracts.
use Rattle.std.specs.Prelude.{ℕ, ◌++◌}
use Rattle.std.specs.Hash.{HashWrites, u32, u64}

-- whole seconds, and the nanoseconds beside them
pub record Moment : Type 0 where
  pub seconds : ℕ
  pub nanoseconds : ℕ

-- what a time gives to a hasher: its seconds and nanoseconds
abbrev pub moment_writes : Moment → HashWrites
moment_writes moment = u64 moment.seconds ++ u32 moment.nanoseconds
