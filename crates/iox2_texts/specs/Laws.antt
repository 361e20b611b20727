-- Laws that no single call carries.
use Rattle.std.specs.Prelude.{◌≡◌, ◌↔◌, ◌≤◌, ◌<◌, ℕ, List, length, slice_get, IsNone}
use Rattle.iox2_texts.specs.Pair.{Pair}
use Rattle.iox2_texts.specs.Attribute.{IsListing, values_of}
use Rattle.iox2_texts.specs.Multiple.{IsLeastMultiple, least_multiple}

-- one content has one listing
abbrev pub ListingsAreUnique : Type 0
ListingsAreUnique = (content xs ys : List Pair) → IsListing content xs → IsListing content ys
    → xs ≡ ys

-- a key has no value exactly from the number of its values on
abbrev pub ValuesAreCounted : Type 0
ValuesAreCounted =
    (pairs : List Pair) (key : List ℕ) (index : ℕ)
    → IsNone (slice_get (values_of pairs key) index) ↔ (length (values_of pairs key) ≤ index)

-- `least_multiple` is the least multiple, and the only one
pub record LeastMultiplesAreUnique : Type 0 where
  pub is_least : (value alignment : ℕ) → 0 < alignment
      → IsLeastMultiple value alignment (least_multiple value alignment)
  pub only : (value alignment y z : ℕ) → IsLeastMultiple value alignment y
      → IsLeastMultiple value alignment z
      → y ≡ z
