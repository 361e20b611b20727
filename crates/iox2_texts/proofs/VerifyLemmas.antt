-- Lemmas on what a verifier finds missing.
use Rattle.std.proofs.Common.{◌≡◌, ℕ, ◌+◌, ◌-◌, ◌<◌, ◌≤◌, Bool, Option, None, Some, false, List, length, get_or, take, drop, map, ap, sym, ◌∙◌, subst, arith, take_all, true≢false}
use Rattle.std.specs.Prelude.{All, Any, Contains, IsSorted, IsTrue, ◌↔◌, MatchOption, option_map}
use Rattle.std.specs.Ordering.{is_lt}
use Rattle.std.specs.Cmp.{IsTotalOrder, on_total, then_total}
use Rattle.std.specs.Cmp.Lexicographic.{nat_list_cmp_total}
use Rattle.std.proofs.lemmas.List.{get_or_default, get_or-drop, get_or-take, length-drop, length-take-le, take-append-drop, take-map, take_rest}
use Rattle.std.proofs.lemmas.List.Elements.{All-append, All-map, All-weaker}
use Rattle.std.proofs.lemmas.List.Sorted.{ranks_by, sorted_far}
use Rattle.std.proofs.lemmas.Option.{get_or_from_slice_get, slice_get-map, slice_get_within}
use Rattle.iox2_texts.specs.Pair.{Pair, pair_cmp}
use Rattle.iox2_texts.specs.Attribute.{ContainsKey}
use Rattle.iox2_texts.specs.Verify.{Finds, IsFirstMissing, IsLeastMissing, Misses}

-- the order of pairs is total
pub pair_cmp_total : IsTotalOrder pair_cmp
pair_cmp_total = grind (arith, on_total, then_total, nat_list_cmp_total)

-- where the first `i` are all of them
pub all_of_take : {X : Type 0} (P : X → Type 0) (xs : List X) (i : ℕ) → length xs ≤ i
    → All P (take i xs)
    → All P xs
all_of_take P xs i past all = subst (λ ys. All P ys) (take_all i xs past) all

-- a test that failed
pub refuted : (b : Bool) (P : Type 0) → (IsTrue b ↔ P) → b ≡ false → ¬ P
refuted b P tells failed holds = true≢false (sym (tells.1 holds) ∙ failed)

-- where none stands from an index on, what is found before it is found in all of the list
pub found_before : {X : Type 0} (P : X → Type 0) (xs : List X) (from : ℕ) (r : Option ℕ)
    → from ≤ length xs
    → Finds P (take (length xs - from) (drop from xs)) None → Finds P (take from xs) r
    → MatchOption r (¬ (Any P xs)) (λ i. (i < length xs) × Any P xs)
found_before P xs from None fits behind before = λ has.
    let (k, x, inside, is, met) = has in
    let rest = rw take_rest at behind in
    let none : All (λ y. ¬ (P y)) xs =
    subst (All (λ y. ¬ (P y))) (take-append-drop from xs)
    (All-append (λ y. ¬ (P y)) (take from xs) (drop from xs) before rest) in
    none k x inside (subst P (sym is) met)
found_before P xs from (Some i) fits behind before =
    let (x, is, met, none) = before in
    let low : i < from =
    omega (arith, slice_get_within (take from xs) i x is, length-take-le from xs fits) in
    let here : get_or xs i x ≡ x =
    sym (get_or-take from xs i x low) ∙ get_or_from_slice_get (take from xs) i x x is in
    (omega (arith, low, fits), (i, x, omega (arith, low, fits), here, met))

-- and so is what is found from it on
pub found_behind : {X : Type 0} (P : X → Type 0) (xs : List X) (from further : ℕ)
    → Finds P (take (length xs - from) (drop from xs)) (Some further)
    → (from + further < length xs) × Any P xs
found_behind P xs from further behind =
    let (x, is, met, none) = rw take_rest at behind in
    let low = slice_get_within (drop from xs) further x is in
    let inside : from + further < length xs = omega (arith, low, length-drop from xs) in
    let here : get_or xs (from + further) x ≡ x =
    sym (get_or-drop from xs further x) ∙ get_or_from_slice_get (drop from xs) further x x is in
    (inside, (from + further, x, inside, here, met))

-- what is met in one sense is met in another that says the same
pub Misses-same : {X : Type 0} (P Q : X → Type 0) (xs : List X) (r : Option ℕ)
    → ((x : X) → P x ↔ Q x) → Misses P xs r
    → Misses Q xs r
Misses-same P Q xs None same misses = All-weaker P Q (λ x. (same x).0) xs misses
Misses-same P Q xs (Some i) same misses = grind (arith, All-weaker)

-- and so of what is made of each element
pub Misses-map : {X Y : Type 0} (f : X → Y) (P : Y → Type 0) (xs : List X) (r : Option ℕ)
    → Misses (λ x. P (f x)) xs r
    → Misses P (map f xs) r
Misses-map f P xs None misses = All-map P f xs misses
Misses-map f P xs (Some i) misses =
    let (x, is, missing, before) = misses in (
      f x,
      slice_get-map f xs i ∙ ap (option_map f) is,
      missing,
      rw take-map (All-map P f (take i xs) before),
    )

-- a list has what one of its elements is
pub Contains-Any : {X : Type 0} (xs : List X) (x : X) → Any (λ y. y ≡ x) xs ↔ Contains xs x
Contains-Any xs x = grind arith

-- the first that is missing of required pairs that rise is the least
pub least_missing : (required pairs : List Pair) (i : ℕ) (item : Pair)
    → IsSorted pair_cmp required
    → item ≡ get_or required i item → Misses (Contains pairs) required (Some i)
    → IsLeastMissing required pairs item
least_missing required pairs i item rises here misses =
    let (missing, is, lacks, before) = misses in
    let inside = slice_get_within required i missing is in
    let same : item ≡ missing = here ∙ get_or_from_slice_get required i missing item is in (
      (i, inside, sym here),
      λ has. lacks (subst (Contains pairs) same has),
      λ other at not_in less.
          let rank = ranks_by pair_cmp_total (λ p. p) in
          let far = sorted_far (λ x y. is_lt (pair_cmp x y)) rank required rises i at.0 other in
          let read = get_or_default required i other item inside in
          let earlier = before at.0 other in
          grind (arith, get_or-take, length-take-le),
    )

-- the same for copies of the pair's parts
pub pair_fault : (required shown pairs : List Pair) (item : Pair) (key value : List ℕ)
    → shown ≡ required
    → IsLeastMissing shown pairs item → key ≡ item.key → value ≡ item.value
    → IsLeastMissing required pairs (record { key = key; value = value })
pair_fault required shown pairs item key value same missing key_is value_is = grind arith

-- the first that is missing of required keys
pub key_fault : (keys shown : List (List ℕ)) (pairs : List Pair) (i : ℕ) (item key : List ℕ)
    → shown ≡ keys
    → item ≡ get_or shown i item → key ≡ item → Misses (ContainsKey pairs) shown (Some i)
    → IsFirstMissing keys pairs key
key_fault keys shown pairs i item key same here copied misses =
    let (missing, is, lacks, before) = misses in
    let found : key ≡ missing = copied ∙ here ∙ get_or_from_slice_get shown i missing item is in
    rw (← same) (i, rw (← found) at is, rw (← found) at lacks, before)
