-- The text of a number is UTF-8, is parsed as that number, and is what that number has.
use Rattle.std.proofs.Common.{◌≡◌, ℕ, ◌<◌, ◌^◌, List, [], ◌∷◌, ap, arith, refl, rules, subst, sym, ◌∙◌}
use Rattle.std.proofs.lemmas.Bool.Decides.{nat_tests}
use Rattle.std.proofs.lemmas.Fmt.{digits_is_IsNumeral}
use Rattle.std.proofs.lemmas.Str.{IsAscii-drop, IsUtf8-from_ascii}
use Rattle.std.proofs.lemmas.Str.Parse.{without_leading_plus_none}
use Rattle.std.specs.Char.{digit_value}
use Rattle.std.specs.Str.{IsAscii}
use Rattle.std.specs.Str.Parse.{IsNumeral, digits_value, without_leading_plus}
use Rattle.iox2_ids.specs.Packing.{hexadecimal}
use Rattle.iox2_ids.proofs.Hex.{written}
use Rattle.iox2_ids.proofs.identifiers.hexadecimal.Hexadecimal.parse.Goals as goal

ascii : (n : ℕ) → n < 2 ^ 128 → IsAscii (hexadecimal n)
ascii n small =
    let all = written n _ _ small refl refl in
    subst IsAscii all.2 (IsAscii-drop _ _ all.1)

no_plus : (ds : List ℕ) → IsNumeral 16 ds → without_leading_plus ds ≡ ds
no_plus [] h = refl
no_plus (d ∷ ds) h = without_leading_plus_none (d ∷ ds)
    (λ e. let small : digit_value d < 16 = h.1.0 in grind (arith, nat_tests))

parsed : (n : ℕ) (text : List ℕ) → n < 2 ^ 128 → hexadecimal n ≡ text
    → IsNumeral 16 (without_leading_plus text) × (digits_value 16 (without_leading_plus text) ≡ n)
parsed n text small e =
    grind (arith, digits_is_IsNumeral, digits_value, without_leading_plus, no_plus)

pub returns-in_default : goal.returns-in_default
returns-in_default c n small e =
    c.in_default.ensures.cases.0 (IsUtf8-from_ascii _ (subst IsAscii e (ascii n small)))

pub returns-in_default-from_str_radix : goal.returns-in_default-from_str_radix
returns-in_default-from_str_radix c n small e = grind (arith, parsed)

pub returns-else-eq : goal.returns-else-eq
returns-else-eq c n small e =
    let read = parsed n _ small (e ∙ sym c.in-Ok.ensures.cases.0) in
    let is = c.in-Ok-from_str_radix.ensures.value.1 ∙ read.1 in
    let same : c.as_bytes.result.now ≡ c.args.text.now =
    c.as_bytes.ensures.text ∙ c.new.ensures ∙ ap hexadecimal is ∙ e in
    search (rules, same)
