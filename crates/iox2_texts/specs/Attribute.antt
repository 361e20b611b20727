-- Sets of attributes.
use Rattle.std.specs.Prelude.{◌≡◌, ℕ, List, [], ◌∷◌, ◌⊎◌, map, filter, Bool, nat_eq, Any, IsPermutation, IsSorted}
use Rattle.std.specs.Cmp.Lexicographic.{pointwise}
use Rattle.iox2_texts.specs.Pair.{Pair, pair_cmp}
use Rattle.iox2_texts.specs.declared.bounded.CallbackProgression.{CallbackProgression}
use Rattle.iox2_texts.specs.declared.bounded.CallbackProgression.TheVariants.{Continue, Stop}

-- `listing` is the sorted list of the pairs `content`,
-- which stand in any order and with their repeats
abbrev pub IsListing : List Pair → List Pair → Type 0
IsListing content listing = IsPermutation content listing × IsSorted pair_cmp listing

-- whether a pair has the key
abbrev pub has_key : List ℕ → Pair → Bool
has_key key pair = pointwise nat_eq pair.key key

-- the values of a key, in the order of the pairs
abbrev pub values_of : List Pair → List ℕ → List (List ℕ)
values_of pairs key = map (λ pair. pair.value) (filter (has_key key) pairs)

-- some pair has the key
abbrev pub ContainsKey : List Pair → List ℕ → Type 0
ContainsKey pairs key = Any (λ pair. pair.key ≡ key) pairs

-- the callback, from the state `before`, was given the items in order, up to and with the first
-- that it answered `Stop`, and was left in the state `after`
abbrev pub Visits : {F X : Type 0} → (F → X → CallbackProgression → F → Type 0) → F → List X → F
    → Type 0
Visits step before [] after = after ≡ before
Visits {F} step before (item ∷ items) after =
    step before item Stop after
    ⊎ ((between : F) × step before item Continue between × Visits step between items after)
