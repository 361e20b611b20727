-- Parts of memory.
use Rattle.std.specs.Prelude.{ℕ, ◌+◌, ◌<◌, ◌≤◌, List, [], ◌∷◌, ⊤}
use Rattle.std.specs.List.{AllByRecursion}
use Rattle.std.specs.Int.{◌∣◌}

-- the bytes from `start` on and before `end`; the start is to be a multiple of the alignment
pub record Part : Type 0 where
  pub start : ℕ
  pub end : ℕ
  pub alignment : ℕ

-- the part starts where it is to
abbrev pub IsAligned : Part → Type 0
IsAligned part = part.alignment ∣ part.start

-- the byte is one of the part's
abbrev pub Covers : Part → ℕ → Type 0
Covers part offset = (part.start ≤ offset) × (offset < part.end)

-- the inner part does not go past the outer one
abbrev pub Within : Part → Part → Type 0
Within outer inner = (outer.start ≤ inner.start) × (inner.end ≤ outer.end)

-- no byte is in both parts
abbrev pub Apart : Part → Part → Type 0
Apart one other = (offset : ℕ) → Covers one offset → Covers other offset → ⊥

-- no two of the parts share a byte
abbrev pub AreApart : List Part → Type 0
AreApart [] = ⊤
AreApart (part ∷ others) = AllByRecursion (Apart part) others × AreApart others

-- the parts lie within the `size` bytes from `header` on, no two share a byte, and each is aligned
pub record Holds (header size : ℕ) (parts : List Part) : Type 0 where
  pub inside : AllByRecursion (λ part. (header ≤ part.start) × (part.end ≤ header + size)) parts
  pub apart : AreApart parts
  pub aligned : AllByRecursion IsAligned parts
