-- What stands before the first of a byte.
use Rattle.std.proofs.Common.{◌≡◌, ◌≢◌, ◌==◌, ℕ, ◌+◌, ◌-◌, ◌<◌, ◌≤◌, Bool, List, [], ◌∷◌, ◌++◌, length, get_or, take, drop, Option, Some, None, arith, add-one, drop-cons, refl, sym, ◌∙◌, ap}
use Rattle.std.specs.List.{position, position_or_len, before_first}
use Rattle.memchr.specs.Find.{IsFirstByte, is_byte}
use Rattle.std.proofs.lemmas.Bool.{eqb-false, eqb-true, false_from_ne_true}
use Rattle.std.proofs.lemmas.Bool.Decides.{nat_tests}
use Rattle.std.proofs.lemmas.List.{length-take-le, take-append-drop, get_or-take, take_all, take_rest}
use Rattle.std.proofs.lemmas.List.Elements.{All-from_get_or, All-head, All-tail}
use Rattle.std.proofs.lemmas.List.Quantifiers.{position-Some}
use Rattle.std.proofs.lemmas.List.Sums.{fails_before_first, position_or_len_is}
use Rattle.line_streams.specs.Numerals.{cons_same}
use Rattle.line_streams.specs.Spelling.{HasNo, OneWay, before}

-- the index that a search for the byte finds
pub found_first : (byte : ℕ) (xs : List ℕ) (found : Option ℕ)
    → IsFirstByte (is_byte byte) xs found → found ≡ position (λ b. b == byte) xs
found_first byte xs None h =
    let p : ℕ → Bool = λ b. b == byte in
    let none = position_or_len_is p xs (length xs) 0 (omega arith)
    (λ k below. false_from_ne_true (p (get_or xs k 0)) (h k (omega arith) below))
    (λ within. absurd (omega (arith, within))) in
    rw none (grind arith)
found_first byte xs (Some i) h =
    let p : ℕ → Bool = λ b. b == byte in
    let is = position_or_len_is p xs i 0 (omega (arith, h.0.high))
    (λ k below. false_from_ne_true (p (get_or xs k 0)) (h.0.before k (omega arith) below))
    (λ within. h.1) in
    rw is (grind (arith, h.0.high))

-- what stands before the first that passes
pub front_is : (p : ℕ → Bool) (xs : List ℕ) (i : ℕ) → position p xs ≡ Some i
    → take i xs ≡ before_first p xs
front_is p xs i e = grind (arith, e)

none_before : (p : ℕ → Bool) (xs : List ℕ) → position p xs ≡ None
    → length xs ≤ position_or_len p xs
none_before p xs e = grind (arith, nat_tests, e)

-- where none passes, all stands before the first
pub all_before : (p : ℕ → Bool) (xs : List ℕ) → position p xs ≡ None → before_first p xs ≡ xs
all_before p xs e = take_all (position_or_len p xs) xs (none_before p xs e)

-- where the byte stands nowhere
pub has_none : (byte : ℕ) (xs : List ℕ) → position (λ b. b == byte) xs ≡ None → HasNo byte xs
has_none byte xs e =
    let past = none_before (λ b. b == byte) xs e in
    All-from_get_or (λ b. b ≢ byte) xs 0
    (λ k within. eqb-false (get_or xs k 0) byte
    (fails_before_first (λ b. b == byte) xs k 0 (omega (arith, past, within))))

-- where the byte stands first
pub parts_at : (byte : ℕ) (xs : List ℕ) (i : ℕ) → position (λ b. b == byte) xs ≡ Some i
    → HasNo byte (take i xs)
    × (xs ≡ take i xs ++ byte ∷ take (length xs - (i + 1)) (drop (i + 1) xs))
parts_at byte xs i e =
    let at = position-Some (λ b. b == byte) xs i 0 e in
    let here : get_or xs i 0 ≡ byte = eqb-true (get_or xs i 0) byte at.1 in
    let next : drop i xs ≡ byte ∷ drop (i + 1) xs =
    rw (add-one, drop-cons xs i 0 at.0, here) refl in
    let long : length (take i xs) ≡ i = length-take-le i xs (omega (arith, at.0)) in (
      All-from_get_or (λ b. b ≢ byte) (take i xs) 0
          (λ k within. let below : k < i = omega (arith, long, within) in
          rw (get_or-take i xs k 0 below) (eqb-false (get_or xs k 0) byte (at.2 k below))),
      rw (take_rest xs (i + 1)) (sym (take-append-drop i xs)
          ∙ ap (λ (l : List ℕ). take i xs ++ l) next),
    )

-- a text with the byte has it
pub has_one : (byte : ℕ) (xs ys : List ℕ) → ¬ HasNo byte (xs ++ byte ∷ ys)
has_one byte [] ys h = All-head (λ b. b ≢ byte) byte ys h refl
has_one byte (x ∷ xs) ys h = has_one byte xs ys (All-tail (λ b. b ≢ byte) x (xs ++ byte ∷ ys) h)

-- no two texts come before the first of a byte
pub before_one : (byte : ℕ) → OneWay (before byte)
before_one byte = record { same = λ a b p q e. same a.0 b.0 a.1 b.1 p q e }
  where
    same : (v w x y : List ℕ) → HasNo byte v → HasNo byte w → v ++ byte ∷ x ≡ w ++ byte ∷ y
        → (v ≡ w) × (x ≡ y)
    same [] [] x y p q e = (refl, (cons_same e).1)
    same [] (b ∷ w) x y p q e =
        absurd (All-head (λ c. c ≢ byte) b w q (sym (cons_same e).0))
    same (a ∷ v) [] x y p q e = absurd (All-head (λ c. c ≢ byte) a v p (cons_same e).0)
    same (a ∷ v) (b ∷ w) x y p q e =
        let both = cons_same e in
        let rest = same v w x y (All-tail (λ c. c ≢ byte) a v p)
        (All-tail (λ c. c ≢ byte) b w q) both.1 in
        (rw (both.0, rest.0) refl, rest.1)
