-- What a search by halves finds among rising numbers.
use Rattle.std.proofs.Common.{◌≡◌, ℕ, ◌==◌, ◌<◌, Bool, true, false, true≢false, IsTrue, List, Result, Ok, Err, length, get_or, sym, inl, inr, arith}
use Rattle.service_descriptions.proofs.Names.{IsAllAdjacentAnswer, list_any, nat_tests, All-from_get_or}
use Rattle.std.specs.List.Sorted.{IsBinarySearchResult, IsNonDecreasing}
use Rattle.std.specs.Ordering.{is_le, is_some_and, nat_cmp}
use Rattle.std.specs.Prelude.{Some}
use Rattle.std.specs.Result.{is_ok}
use Rattle.std.proofs.lemmas.Bool.{cases_lt}
use Rattle.std.proofs.lemmas.List.Folds.{list_any_at, list_any_none}
use Rattle.std.proofs.lemmas.List.Sorted.{non_decreasing_from_is_sorted, searched}

-- numbers of which none is above the next rise
pub rising_from_adjacent : (xs : List ℕ) (r : Bool)
    → IsAllAdjacentAnswer (λ x y b. is_some_and is_le (Some (nat_cmp x y)) ≡ b) xs r
    → IsTrue r → IsNonDecreasing xs
rising_from_adjacent xs true adjacent h = non_decreasing_from_is_sorted xs true adjacent
rising_from_adjacent xs false adjacent h = absurd (true≢false (sym h))

-- a search by halves among rising numbers finds a number exactly where it is one of them
pub found_is : (xs : List ℕ) (x : ℕ) (r : Result ℕ ℕ)
    → IsBinarySearchResult (λ y. nat_cmp y x) xs r → IsNonDecreasing xs
    → is_ok r ≡ list_any (λ k. k == x) xs
found_is xs x (Ok at) found rising =
    let there = searched xs x (Ok at) found (λ i j le lt. rising i j 0 le lt) in
    sym (list_any_at (λ k. k == x) xs at 0 there.0 (grind (arith, nat_tests, there.1)))
found_is xs x (Err at) found rising =
    let parts = searched xs x (Err at) found (λ i j le lt. rising i j 0 le lt) in
    let other : (i : ℕ) → i < length xs → (get_or xs i 0 == x) ≡ false = λ i below.
    elim (cases_lt i at) [
      | inl lt ↦ grind (arith, nat_tests, parts.1 i lt)
      | inr le ↦ grind (arith, nat_tests, parts.2 i le below)
    ] in
    sym (list_any_none (λ k. k == x) xs (All-from_get_or (λ k. (k == x) ≡ false) xs 0 other))
