-- Letters and digits at the front of texts.
use Rattle.std.proofs.Common.{◌≡◌, ℕ, ◌+◌, ◌<◌, ◌^◌, List, [], ◌∷◌, ◌++◌, length, get_or, take, decimal, refl, sym, subst, arith}
use Rattle.std.specs.Cmp.Derive.{both_true}
use Rattle.std.specs.Prelude.{IsTrue}
use Rattle.std.specs.Char.{is_ascii_alphanumeric}
use Rattle.std.specs.Str.Parse.{AllDigits}
use Rattle.std.proofs.lemmas.Bool.{and_parts}
use Rattle.std.proofs.lemmas.Bool.Decides.{nat_tests}
use Rattle.std.proofs.lemmas.Fmt.{decimal_is_IsNumeral}
use Rattle.std.proofs.lemmas.List.{take_more}
use Rattle.std.proofs.lemmas.Str.Parse.{digit_from_value}
use Rattle.line_streams.specs.Numerals.{cons_same}
use Rattle.line_streams.specs.Spelling.{IsDigit}
use Rattle.log_lines.specs.Lines.{IsNameByte, are_letters}

pub first_letter : (b : ℕ) (bs : List ℕ) → IsTrue (are_letters (b ∷ bs)) → IsNameByte b
first_letter b bs p = (and_parts (is_ascii_alphanumeric b) (are_letters bs) p).0

pub letters_join : (a b : List ℕ) → IsTrue (are_letters a) → IsTrue (are_letters b)
    → IsTrue (are_letters (a ++ b))
letters_join [] b p q = q
letters_join (x ∷ a) b p q =
    let parts = and_parts (is_ascii_alphanumeric x) (are_letters a) p in
    both_true parts.0 (letters_join a b parts.1 q)

pub letters_more : (xs : List ℕ) (i : ℕ) → i < length xs → IsTrue (are_letters (take i xs))
    → IsTrue (is_ascii_alphanumeric (get_or xs i 0)) → IsTrue (are_letters (take (i + 1) xs))
letters_more xs i h front one =
    subst (λ (l : List ℕ). IsTrue (are_letters l)) (sym (take_more xs i 0 h))
    (letters_join (take i xs) (get_or xs i 0 ∷ []) front
    (both_true one refl))

-- letters and digits before what is none come apart in one way
pub name_same : (a b x y : List ℕ) → IsTrue (are_letters a) → IsTrue (are_letters b)
    → ¬ (IsNameByte (get_or x 0 0)) → ¬ (IsNameByte (get_or y 0 0)) → a ++ x ≡ b ++ y
    → (a ≡ b) × (x ≡ y)
name_same [] [] x y p q u v e = (refl, e)
name_same [] (b ∷ bs) x y p q u v e =
    absurd (u (subst (λ (l : List ℕ). IsNameByte (get_or l 0 0)) (sym e)
    (and_parts (is_ascii_alphanumeric b) (are_letters bs) q).0))
name_same (a ∷ ds) [] x y p q u v e =
    absurd (v (subst (λ (l : List ℕ). IsNameByte (get_or l 0 0)) e
    (and_parts (is_ascii_alphanumeric a) (are_letters ds) p).0))
name_same (a ∷ ds) (b ∷ bs) x y p q u v e =
    let same = cons_same e in
    let rest = name_same ds bs x y (and_parts (is_ascii_alphanumeric a) (are_letters ds) p).1
    (and_parts (is_ascii_alphanumeric b) (are_letters bs) q).1 u v same.1 in
    (rw (same.0, rest.0) refl, rest.1)

digit_letter : (c : ℕ) → IsDigit c → IsTrue (is_ascii_alphanumeric c)
digit_letter c digit = grind (arith, nat_tests, digit.0, digit.1)

digits_letters : (ds : List ℕ) → AllDigits 10 ds → IsTrue (are_letters ds)
digits_letters [] p = refl
digits_letters (c ∷ ds) p =
    both_true (digit_letter c (digit_from_value c p.0)) (digits_letters ds p.1)

-- the digits of a number are letters and digits
pub number_letters : (n : ℕ) → n < 2 ^ 64 → IsTrue (are_letters (decimal n))
number_letters n h = digits_letters (decimal n) (decimal_is_IsNumeral n h).0.1
