-- What a verifier requires, and what a set lacks.
use Rattle.std.specs.Prelude.{◌≡◌, ◌≢◌, ℕ, List, Option, Contains, All, take, slice_get, Some, None}
use Rattle.std.specs.declared.cmp.Ordering.TheVariants.{Less}
use Rattle.iox2_texts.specs.Pair.{Pair, pair_cmp}
use Rattle.iox2_texts.specs.Attribute.{ContainsKey}

-- the pairs that are required, in rising order, and the keys, in the order of the calls
pub record Requirements : Type 0 where
  pub pairs : List Pair
  pub keys : List (List ℕ)

-- each required pair is in the set, and each required key is the key of some pair of it
abbrev pub IsSatisfied : Requirements → List Pair → Type 0
IsSatisfied required pairs = All (Contains pairs) required.pairs
    × All (ContainsKey pairs) required.keys

-- the least of the required pairs that are not in the set
abbrev pub IsLeastMissing : List Pair → List Pair → Pair → Type 0
IsLeastMissing required pairs missing =
    Contains required missing × (¬ (Contains pairs missing))
    × ((other : Pair) → Contains required other → ¬ (Contains pairs other)
    → pair_cmp other missing ≢ Less)

-- the first of the required keys that no pair has
abbrev pub IsFirstMissing : List (List ℕ) → List Pair → List ℕ → Type 0
IsFirstMissing keys pairs missing =
    (i : ℕ) × (slice_get keys i ≡ Some missing) × (¬ (ContainsKey pairs missing))
    × All (ContainsKey pairs) (take i keys)

-- the element at the index has the property, and none before it has
abbrev pub IsFirst : {X : Type 0} → (X → Type 0) → List X → ℕ → Type 0
IsFirst {X} P xs i = (x : X) × (slice_get xs i ≡ Some x) × P x × All (λ y. ¬ (P y)) (take i xs)

-- what a search for an element with the property answers: the index of the first, if there is one
abbrev pub Finds : {X : Type 0} → (X → Type 0) → List X → Option ℕ → Type 0
Finds P xs None = All (λ x. ¬ (P x)) xs
Finds P xs (Some i) = IsFirst P xs i

-- what a search for an element without the property answers
abbrev pub Misses : {X : Type 0} → (X → Type 0) → List X → Option ℕ → Type 0
Misses P xs None = All P xs
Misses {X} P xs (Some i) = (x : X) × (slice_get xs i ≡ Some x) × (¬ (P x)) × All P (take i xs)
