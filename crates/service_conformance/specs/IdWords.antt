-- The id of a reply is read in one way. The law of the phrase cites it.
use Rattle.std.proofs.Common.{◌≡◌, ◌≢◌, ℕ, ◌<◌, ◌≤◌, false, List, [], ◌∷◌, ◌++◌, get_or, refl, sym, ◌∙◌, ap, arith}
use Rattle.std.proofs.lemmas.Bool.Decides.{nat_tests}
use Rattle.std.proofs.lemmas.Fmt.{digits_is_IsNumeral}
use Rattle.std.proofs.lemmas.List.Elements.{All-cons, All-head, All-nil, All-tail}
use Rattle.std.specs.Char.{digit_value}
use Rattle.std.specs.Str.Parse.{AllDigits, IsNumeral, digits_value}
use Rattle.iox2_ids.specs.Packing.{hexadecimal}
use Rattle.line_streams.specs.Numerals.{cons_same}
use Rattle.line_streams.specs.Spelling.{HasNo, OneWay}
use Rattle.service_conformance.specs.Seen.{EndsWord, printed_id}
use Rattle.service_descriptions.specs.Lines.{IsId}

digit_from : (c : ℕ) → digit_value c < 16 → 48 ≤ c
digit_from c h = grind (arith, nat_tests)

digits_have_no_space : (ds : List ℕ) → AllDigits 16 ds → HasNo 32 ds
digits_have_no_space [] h = All-nil (λ b. b ≢ 32)
digits_have_no_space (d ∷ ds) h =
    All-cons (λ b. b ≢ 32) d ds (λ e. omega (arith, digit_from d h.0, e))
    (digits_have_no_space ds h.1)

-- a number is read from its digits
id_numeral : (n : ℕ) → IsId n
    → IsNumeral 16 (hexadecimal n) × (digits_value 16 (hexadecimal n) ≡ n)
id_numeral n small = digits_is_IsNumeral 16 false (omega arith) (omega arith) n (omega arith)

pub has_no_space : (n : ℕ) → IsId n → HasNo 32 (hexadecimal n)
has_no_space n small = digits_have_no_space (hexadecimal n) (id_numeral n small).0.1

pub same_id : (m n : ℕ) → IsId m → IsId n → hexadecimal m ≡ hexadecimal n → m ≡ n
same_id m n p q e =
    sym (id_numeral m p).1 ∙ (ap (digits_value 16) e ∙ (id_numeral n q).1)

-- words before a space or the end come apart in one way
pub apart : (v w x y : List ℕ) → HasNo 32 v → HasNo 32 w → EndsWord x → EndsWord y
    → v ++ x ≡ w ++ y → (v ≡ w) × (x ≡ y)
apart [] [] x y p q u t e = (refl, e)
apart [] (b ∷ w) x y p q u t e =
    absurd (All-head (λ c. c ≢ 32) b w q (sym (ap (λ (l : List ℕ). get_or l 0 32) e) ∙ u))
apart (a ∷ v) [] x y p q u t e =
    absurd (All-head (λ c. c ≢ 32) a v p (ap (λ (l : List ℕ). get_or l 0 32) e ∙ t))
apart (a ∷ v) (b ∷ w) x y p q u t e =
    let both = cons_same e in
    let rest =
    apart v w x y (All-tail (λ c. c ≢ 32) a v p) (All-tail (λ c. c ≢ 32) b w q) u t both.1 in
    (rw (both.0, rest.0) refl, rest.1)

pub printed_one : OneWay printed_id
printed_one = record {
  same = λ a b p q e.
      let both =
      apart (hexadecimal a.0) (hexadecimal b.0) a.1 b.1 (has_no_space a.0 p.0)
      (has_no_space b.0 q.0) p.1 q.1 e in
      (same_id a.0 b.0 p.0 q.0 both.0, both.1);
}
