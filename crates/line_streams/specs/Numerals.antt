-- The texts of numbers.
use Rattle.std.proofs.Common.{◌≡◌, ℕ, ◌<◌, ◌^◌, List, [], ◌∷◌, ◌++◌, refl}
use Rattle.std.specs.Fmt.{decimal}
use Rattle.std.specs.Str.Parse.{AllDigits}
use Rattle.std.proofs.lemmas.Fmt.{decimal_is_IsNumeral, decimal_injective}
use Rattle.std.proofs.lemmas.Str.Parse.{digit_from_value}
use Rattle.line_streams.specs.Spelling.{EndsNumber}

pub cons_same : {A : Type 0} {x y : A} {xs ys : List A} → x ∷ xs ≡ y ∷ ys → (x ≡ y) × (xs ≡ ys)
cons_same e = (cc, cc)

digits_of : (n : ℕ) → n < 2 ^ 64 → AllDigits 10 (decimal n)
digits_of n h = (decimal_is_IsNumeral n h).0.1

-- digits before what is not a digit come apart in one way
split_same : (a b x y : List ℕ) → AllDigits 10 a → AllDigits 10 b → EndsNumber x → EndsNumber y → a
    ++ x ≡ b ++ y → (a ≡ b) × (x ≡ y)
split_same [] [] x y p q u v e = (refl, e)
split_same [] (b ∷ bs) x y p q u v e = absurd (u (rw e (digit_from_value b q.0)))
split_same (a ∷ ds) [] x y p q u v e = absurd (v (rw (← e) (digit_from_value a p.0)))
split_same (a ∷ ds) (b ∷ bs) x y p q u v e =
    let same = cons_same e in
    let rest = split_same ds bs x y p.1 q.1 u v same.1 in
    (rw (same.0, rest.0) refl, rest.1)

-- numbers at the front of one text are the same
pub same_number : (m n : ℕ) (x y : List ℕ) → m < 2 ^ 64 → n < 2 ^ 64 → EndsNumber x → EndsNumber y
    → decimal m ++ x ≡ decimal n ++ y → (m ≡ n) × (x ≡ y)
same_number m n x y p q u v e =
    let same = split_same (decimal m) (decimal n) x y (digits_of m p) (digits_of n q) u v e in
    (decimal_injective m n p q same.0, same.1)
