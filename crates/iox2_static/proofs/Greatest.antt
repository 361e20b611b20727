-- The greatest number of chunks in use is the sum of the limits.
use Rattle.std.proofs.Common.{◌≡◌, ℕ, suc, zero, ◌+◌, ◌<◌, ◌≤◌, ◌^◌, List, [], ◌∷◌, ◌++◌, length, sum, take, drop, refl, sym, ap, ◌∙◌, subst, arith, false, ne_eqb, Option, Some, None, MatchOption}
use Rattle.std.specs.Prelude.{nat_eq}
use Rattle.std.specs.List.{AllByRecursion, concat, Contains, IsDistinct, range_with_len}
use Rattle.std.proofs.lemmas.Cmp.{nat_eq_equiv}
use Rattle.std.proofs.lemmas.List.{length-append, length-drop, length-take, take-append-drop}
use Rattle.std.proofs.lemmas.List.FromFn.{length-range_with_len}
use Rattle.std.proofs.lemmas.List.Sums.{sum_by-cons}
use Rattle.std.proofs.lemmas.Map.Made.{length-le_from_is_member, is_member-Decides}
use Rattle.std.proofs.lemmas.Bool.Decides.{Decides-eqb}
use Rattle.iox2_static.specs.Chunks.{IsHolding, IsGreatest, ReportsGreatest}

-- none of the numbers from k on is below k
none_below : (q k n : ℕ) → q < k → AllByRecursion (λ y. nat_eq q y ≡ false) (range_with_len k n)
none_below q k zero l = tt
none_below q k (suc n) l = (ne_eqb q k (λ e. omega arith), none_below q (k + 1) n (omega arith))

range_distinct : (k n : ℕ) → IsDistinct nat_eq (range_with_len k n)
unfolding IsDistinct
range_distinct k zero = tt
range_distinct k (suc n) = (none_below k (k + 1) n (omega arith), range_distinct (k + 1) n)

-- the chunks holder by holder
pieces : List ℕ → List ℕ → List (List ℕ)
pieces [] chunks = []
pieces (limit ∷ limits) chunks = take limit chunks ∷ pieces limits (drop limit chunks)

pieces_hold : (limits chunks : List ℕ) → IsHolding limits (pieces limits chunks)
unfolding pieces
pieces_hold [] chunks = tt
pieces_hold (limit ∷ limits) chunks =
    (omega (arith, length-take limit chunks), pieces_hold limits (drop limit chunks))

concat-pieces : (limits chunks : List ℕ) → length chunks ≡ sum limits
    → concat (pieces limits chunks) ≡ chunks
unfolding pieces
concat-pieces [] [] e = refl
concat-pieces [] (chunk ∷ chunks) e = absurd (omega arith)
concat-pieces (limit ∷ limits) chunks e =
    let total = sum_by-cons (λ x. x) limit limits in
    let rest = concat-pieces limits (drop limit chunks)
    (omega (arith, length-drop limit chunks, total)) in
    ap (λ others. take limit chunks ++ others) rest ∙ take-append-drop limit chunks

-- a holding has no more chunks than the limits add up to
length-concat : (limits : List ℕ) (holding : List (List ℕ)) → IsHolding limits holding
    → length (concat holding) ≤ sum limits
length-concat [] [] h = omega arith
length-concat [] (chunks ∷ holding) h = absurd h
length-concat (limit ∷ limits) [] h = absurd h
length-concat (limit ∷ limits) (chunks ∷ holding) h =
    omega (
      arith,
      h.0,
      length-append chunks (concat holding),
      sum_by-cons (λ x. x) limit limits,
      length-concat limits holding h.1,
    )

-- different numbers that all stand in a list are no more than its length
length-le_from_distinct : (xs ys : List ℕ) → IsDistinct nat_eq xs
    → ((x : ℕ) → Contains xs x → Contains ys x) → length xs ≤ length ys
length-le_from_distinct xs ys d h =
    length-le_from_is_member nat_eq_equiv xs ys d
    (λ q m. (is_member-Decides Decides-eqb ys q).1
    (h q ((is_member-Decides Decides-eqb xs q).0 m)))

greatest_is_sum : (limits : List ℕ) → IsGreatest limits (sum limits)
greatest_is_sum limits =
    let chunks = range_with_len 0 (sum limits) in
    let size = length-range_with_len 0 (sum limits) in (
      (
        pieces limits chunks,
        pieces_hold limits chunks,
        (
          chunks,
          size,
          range_distinct 0 (sum limits),
          λ chunk. rw (concat-pieces limits chunks size) (λ h. h, λ h. h),
        ),
      ),
      λ holding d h used.
          omega (
            arith,
            used.1,
            length-concat limits holding h,
            length-le_from_distinct used.0 (concat holding) used.2 (λ x. (used.3 x).0),
          ),
    )

-- an answer that is the sum of the limits, or none where that passes 64 bits
pub tells : (limits : List ℕ) (answer : Option ℕ)
    → MatchOption answer (2 ^ 64 ≤ sum limits) (λ c. c ≡ sum limits) → ReportsGreatest limits answer
tells limits None past = (sum limits, greatest_is_sum limits, past)
tells limits (Some c) same = subst (λ n. IsGreatest limits n) (sym same) (greatest_is_sum limits)
