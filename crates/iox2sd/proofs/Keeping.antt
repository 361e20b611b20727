-- What a search by halves finds among sorted ports.
use Rattle.iox2sd.proofs.Names.{Bool, Err, IsNonDecreasingBy-from_all_adjacent, IsTrue, List, Ok, PortId, Result, arith, false, get_or, id_of, if◌then◌else◌, inl, inr, is_at_most, is_kept, length, number_of, order_at, sym, true, true≢false, ℕ, ◌&&◌, ◌<◌, ◌==◌, ◌≡◌, ◌≤◌}
use Rattle.iox2sd.specs.DeadNodes.{AreSorted}
use Rattle.std.proofs.lemmas.Bool.{cases_lt}
use Rattle.std.specs.List.{IsAllAdjacentAnswer}
use Rattle.std.specs.List.Sorted.{IsSearchInRange, IsBinarySearchResult}
use Rattle.std.specs.Ordering.{is_le, nat_cmp, ordering_index}
use Rattle.std.specs.Result.{is_ok}
use Rattle.std.specs.declared.cmp.Ordering.TheVariants.{Less, Equal, Greater}
use Rattle.std.proofs.lemmas.Bool.Decides.{nat_tests}
use Rattle.std.proofs.lemmas.List.Elements.{All-from_get_or}
use Rattle.std.proofs.lemmas.List.Folds.{list_any_at, list_any_none}

-- a port that no list has
none : PortId
none = record { role = 0; port = id_of 0 }

-- the same number and the same role, or another one
equal_is : (n v a r : ℕ) → (if n == v then nat_cmp a r else nat_cmp n v) ≡ Equal
    → (a == r && n == v) ≡ true
equal_is n v a r e = grind (arith, nat_tests)

less_is : (n v a r : ℕ) → (if n == v then nat_cmp a r else nat_cmp n v) ≡ Less
    → (a == r && n == v) ≡ false
less_is n v a r e = grind (arith, nat_tests)

greater_is : (n v a r : ℕ) → (if n == v then nat_cmp a r else nat_cmp n v) ≡ Greater
    → (a == r && n == v) ≡ false
greater_is n v a r e = grind (arith, nat_tests)

-- what stands before another port stands no further behind any third one
rises : (n v m a r s : ℕ) → is_le (if n == m then nat_cmp a s else nat_cmp n m) ≡ true
    → ordering_index (if n == v then nat_cmp a r else nat_cmp n v)
    ≤ ordering_index (if m == v then nat_cmp s r else nat_cmp m v)
rises n v m a r s le = grind (arith, nat_tests)

-- ports of which no one is above the next are sorted
pub sorted_from_adjacent : (kept : List PortId) (r : Bool)
    → IsAllAdjacentAnswer (λ x y b. b ≡ is_at_most x y) kept r
    → IsTrue r → AreSorted kept
unfolding AreSorted
sorted_from_adjacent kept true adjacent h role value =
    IsNonDecreasingBy-from_all_adjacent (λ p. ordering_index (order_at p role value)) kept
    (λ k d lt. rises _ value _ _ role _ (sym (adjacent k d lt)))
sorted_from_adjacent kept false adjacent h role value = absurd (true≢false (sym h))

pub searched : (kept : List PortId) (role value : ℕ) → AreSorted kept → (r : Result ℕ ℕ)
    → IsSearchInRange r (length kept)
    → IsBinarySearchResult (λ p. order_at p role value) kept r
    → is_ok r ≡ is_kept kept role value
unfolding AreSorted
searched kept role value sorted (Ok at) in_range equal =
    sym (list_any_at (λ p. p.role == role && number_of p.port == value) kept at none in_range
    (equal_is _ value _ role (equal none)))
searched kept role value sorted (Err at) in_range parted =
    let parts = parted (sorted role value) in
    let Is : PortId → Bool = λ p. p.role == role && number_of p.port == value in
    let other : (i : ℕ) → i < length kept → Is (get_or kept i none) ≡ false = λ i below.
    elim (cases_lt i at) [
      | inl lt ↦ less_is _ value _ role (parts.0 i none (omega arith) lt)
      | inr le ↦ greater_is _ value _ role (parts.1 i none le below)
    ] in
    sym (list_any_none Is kept (All-from_get_or (λ p. Is p ≡ false) kept none other))
