-- What an attribute is: a key with a value, and the order of such pairs.
use Rattle.std.specs.Prelude.{ℕ, List, ◌≤◌, length}
use Rattle.std.specs.declared.cmp.Ordering.{Ordering}
use Rattle.std.specs.Ordering.{nat_cmp, ordering_then}
use Rattle.std.specs.Cmp.Lexicographic.{slice_cmp}
use Rattle.std.specs.Hash.{HashWrites, u8, slice}
use Rattle.std.specs.List.Sorted.{IsSorted}

-- a key and a value, as their bytes
pub record Pair : Type 0 where
  pub key : List ℕ
  pub value : List ℕ

-- the order of texts by their bytes
abbrev pub text_cmp : List ℕ → List ℕ → Ordering
text_cmp a b = slice_cmp nat_cmp a b

-- what a text gives to a hasher: its length and its bytes
abbrev pub text_writes : List ℕ → HashWrites
text_writes bytes = slice u8 bytes

-- the order of pairs: by key, and then by value
abbrev pub pair_cmp : Pair → Pair → Ordering
pair_cmp a b = ordering_then (text_cmp a.key b.key) (text_cmp a.value b.value)

-- a list of pairs that rises, of at most 16
abbrev pub IsAttributes : List Pair → Type 0
IsAttributes pairs = IsSorted pair_cmp pairs × (length pairs ≤ 16)
