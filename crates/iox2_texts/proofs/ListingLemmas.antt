-- A listing is determined by the pairs in it.
use Rattle.std.proofs.Common.{◌≡◌, ℕ, ◌+◌, ◌<◌, ◌≤◌, Bool, true, false, cond, List, [], ◌∷◌, length, get_or, ap, sym, refl, arith, rules, add-one, suc}
use Rattle.std.specs.Prelude.{IsSorted, IsPermutation, sum_by, nat_eq, ◌&&◌}
use Rattle.std.specs.declared.cmp.Ordering.{Ordering}
use Rattle.std.specs.declared.cmp.Ordering.TheVariants.{Equal}
use Rattle.std.specs.Ordering.{is_lt, is_eq, eq_by_cmp}
use Rattle.std.specs.Cmp.{IsTotalOrder, tied_itself}
use Rattle.std.specs.Bool.{Decides}
use Rattle.std.specs.Cmp.Lexicographic.{pointwise, texts_ties, bytes_decides}
use Rattle.std.proofs.lemmas.List.{length-map}
use Rattle.std.proofs.lemmas.List.Sorted.{IsPermutation-refl, IsPermutation-sym, IsPermutation-to_front, IsPermutation-trans, ranks_by, sorted_far, sum_by-IsPermutation}
use Rattle.std.proofs.lemmas.List.Sums.{length-filter, sum_by-cons}
use Rattle.std.proofs.lemmas.Slice.Eq.{slice_eq-Decides}
use Rattle.arrayvec.proofs.ArrayVecLemmas.{items-with_items}
use Rattle.iox2_texts.specs.Pair.{Pair, pair_cmp}
use Rattle.iox2_texts.proofs.VerifyLemmas.{pair_cmp_total}

module _ {K : Type 0} (R : K → K → Ordering) (o : IsTotalOrder R)
    (tie : (x y : K) → R x y ≡ Equal → x ≡ y) where
  -- how often a value stands in a list
  abbrev hit : K → K → ℕ
  hit z y = cond (eq_by_cmp R z y) 1 0

  counted : (x : K) (xs : List K) → 1 ≤ sum_by (hit x) (x ∷ xs)
  counted x xs = grind (arith, tied_itself o x, sum_by-cons (hit x) x xs)

  -- one that is counted stands somewhere
  abbrev Found : K → List K → Type 0
  Found z xs = (j : ℕ) × (j < length xs) × ((d : K) → R z (get_or xs j d) ≡ Equal)

  is_equal : (r : Ordering) → is_eq r ≡ true → r ≡ Equal
  is_equal r e = grind arith

  found_in : (z x : K) (xs : List K) (b : Bool) → eq_by_cmp R z x ≡ b
      → 1 ≤ cond b 1 0 + sum_by (hit z) xs
      → (1 ≤ sum_by (hit z) xs → Found z xs) → Found z (x ∷ xs)
  found_in z x xs true e h later = (0, omega arith, λ d. is_equal (R z x) e)
  found_in z x xs false e h later =
      let at = later (omega (arith, h)) in (suc at.0, omega (arith, at.1), λ d. at.2 d)

  found : (z : K) (xs : List K) → 1 ≤ sum_by (hit z) xs → Found z xs
  found z [] some = absurd (omega (arith, some))
  found z (x ∷ xs) some =
      found_in z x xs (eq_by_cmp R z x) refl (omega (arith, sum_by-cons (hit z) x xs)) (found z xs)

  -- the first of a rising list is not above what is counted in it
  not_above : (x y : K) (ys : List K) → IsSorted R (y ∷ ys) → 1 ≤ sum_by (hit x) (y ∷ ys)
      → is_lt (R x y) ≡ false
  not_above x y ys rises some =
      let at = found x (y ∷ ys) some in
      let rank = ranks_by o (λ k. k) in
      let far = sorted_far (λ a b. is_lt (R a b)) rank (y ∷ ys) rises 0 at.0 y in
      grind (arith, o.congr)

  rest_rises : (x : K) (xs : List K) → IsSorted R (x ∷ xs) → IsSorted R xs
  rest_rises x xs rises k d low high = grind (arith, add-one, rises (suc k) d)

  -- rising lists that count alike are one
  pub one_list : (xs ys : List K) → IsSorted R xs → IsSorted R ys
      → ((z : K) → sum_by (hit z) xs ≡ sum_by (hit z) ys) → xs ≡ ys
  one_list [] [] s t counts = refl
  one_list [] (y ∷ ys) s t counts = absurd (omega (arith, counts y, counted y ys))
  one_list (x ∷ xs) [] s t counts = absurd (omega (arith, counts x, counted x xs))
  one_list (x ∷ xs) (y ∷ ys) s t counts =
      let first = not_above x y ys t (omega (arith, counts x, counted x xs)) in
      let second = not_above y x xs s (omega (arith, counts y, counted y ys)) in
      let same : x ≡ y = tie x y (grind (arith, o.antisymm x y)) in
      let rest = one_list xs ys (rest_rises x xs s) (rest_rises y ys t)
      (λ z. let here = ap (hit z) same in
      omega (arith, counts z, sum_by-cons (hit z) x xs, sum_by-cons (hit z) y ys)) in
      cc

-- pairs that tie are one
pub pair_tie : (p q : Pair) → pair_cmp p q ≡ Equal → p ≡ q
pair_tie p q e =
    let keys = texts_ties p.key q.key in
    let values = texts_ties p.value q.value in
    grind (arith, bytes_decides p.key q.key, bytes_decides p.value q.value)

-- rising lists with the same pairs are one
pub listing_unique : (xs ys : List Pair) → IsSorted pair_cmp xs → IsSorted pair_cmp ys
    → IsPermutation xs ys
    → xs ≡ ys
listing_unique xs ys s t same =
    one_list pair_cmp pair_cmp_total pair_tie xs ys s t
    (λ z. sym (sum_by-IsPermutation _ xs ys same))

-- `==` on keys and on values decides equality of pairs
pub pairs-Decides : (p q : Pair)
    → Decides (pointwise nat_eq p.key q.key && pointwise nat_eq p.value q.value) (p ≡ q)
pairs-Decides p q = search rules

-- that sets are equal where they have the same pairs
pub ruleset equal = (slice_eq-Decides, pairs-Decides, IsPermutation-refl, listing_unique)

-- that a pair that was pushed and sorted is one more
pub ruleset pushed = (
  items-with_items,
  IsPermutation-trans,
  IsPermutation-sym,
  IsPermutation-to_front,
)

-- how many values a filter leaves
pub ruleset filtered = (length-map, length-filter)
