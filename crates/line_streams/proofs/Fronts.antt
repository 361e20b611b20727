-- Numbers at the front of a text.
use Rattle.std.proofs.Common.{◌≡◌, ◌≢◌, ℕ, zero, suc, ◌<◌, ◌≤◌, ◌^◌, ◌+◌, List, [], ◌∷◌, ◌++◌, length, get_or, take, drop, ◌-◌, ◌*◌, inl, inr, arith, sym, ◌∙◌, ap}
use Rattle.std.specs.Fmt.{decimal}
use Rattle.std.specs.Str.Parse.{AllDigits, digits_value}
use Rattle.std.proofs.lemmas.Fmt.{decimal_is_IsNumeral, digits_value-decimal, decimal_digit, decimal_nonempty, decimal-digits_value, first_decimal}
use Rattle.std.proofs.lemmas.Str.Parse.{IsNumeralModel, digit_at, digit_from_value, digits_value-take-le, numerals_by_value, tells_digits}
use Rattle.std.proofs.lemmas.Str.{digit_value_digit}
use Rattle.std.proofs.lemmas.Int.Digits.{digits_more, digits_value_more}
use Rattle.std.proofs.lemmas.Bool.{cases_lt}
use Rattle.std.proofs.lemmas.List.{drop-drop, length-append, length-take-le, take-append-drop, take-append-le, get_or-take, length-drop, get_or-drop, get_or_past}
use Rattle.std.proofs.Math.ListN.{get_or-append}
use Rattle.line_streams.specs.Spelling.{EndsNumber, IsDigit}

-- digits write their number
own : IsNumeralModel (AllDigits 10) (digits_value 10)
own = numerals_by_value (AllDigits 10) tells_digits

pub decimal_first : (n : ℕ) → n < 2 ^ 64 → IsDigit (get_or (decimal n) 0 0)
decimal_first n h = digit_at (decimal n) 0 (decimal_is_IsNumeral n h).0.1 (decimal_nonempty n h)

-- a number that begins with a zero is 0
decimal_no_zero : (n : ℕ) → n < 2 ^ 64 → get_or (decimal n) 0 0 ≡ 48 → length (decimal n) ≡ 1
decimal_no_zero n h e = elim (cases_lt 0 n) [
  | inl above ↦ let more = first_decimal n above h in absurd (omega arith)
  | inr none ↦
      let zero : n ≡ 0 = omega arith in rw zero (ap length (decimal_digit 0 (omega arith)))
]

-- digits at the front of a text are those of its number
covers : (a rest : List ℕ) (k : ℕ) → EndsNumber rest → AllDigits 10 (take k (a ++ rest))
    → k ≤ length (a ++ rest) → k ≤ length a
covers a rest zero u d le = omega arith
covers [] [] (suc k) u d le = absurd (omega arith)
covers [] (r ∷ rest) (suc k) u d le = absurd (u (digit_from_value r d.0))
covers (b ∷ bs) rest (suc k) u d le = let shorter = covers bs rest k u d.1 (omega arith) in
    omega arith

-- and write no larger number
pub front_value : (n : ℕ) (rest bytes : List ℕ) (k : ℕ) → n < 2 ^ 64 → EndsNumber rest
    → bytes ≡ decimal n ++ rest → AllDigits 10 (take k bytes) → k ≤ length bytes
    → digits_value 10 (take k bytes) ≤ n
front_value n rest bytes k h u e d le =
    let short = covers (decimal n) rest k u (rw e at d) (rw e at le) in
    let value = digits_value-take-le 10 (decimal n) k (omega arith) in
    rw (e, take-append-le k (decimal n) rest short) (rw (digits_value-decimal own n h) at value)

spare : (ds rest : List ℕ) → 0 < length ds → (get_or ds 0 0 ≡ 48 → length ds ≡ 1) → EndsNumber rest
    → get_or (ds ++ rest) 0 0 ≡ 48 → IsDigit (get_or (ds ++ rest) 1 0) → ⊥
spare [] rest some alone u naught digit = omega arith
spare (d ∷ []) rest some alone u naught digit = u digit
spare (d ∷ e ∷ ds) rest some alone u naught digit = let one = alone naught in omega arith

-- no number has a zero before a digit
pub no_spare_zero : (n : ℕ) (rest bytes : List ℕ) → n < 2 ^ 64 → EndsNumber rest → bytes ≡ decimal n
    ++ rest → get_or bytes 0 0 ≡ 48 → IsDigit (get_or bytes 1 0) → ⊥
no_spare_zero n rest bytes h u e naught digit =
    spare (decimal n) rest (decimal_nonempty n h) (decimal_no_zero n h) u (rw e at naught)
    (rw e at digit)

-- a zero before what is not a digit is 0
pub zero_found : (b most : ℕ) (rest bytes : List ℕ) → bytes ≡ b ∷ rest → b ≡ 48 → EndsNumber rest
    → ((0 ≤ most) × (0 < 2 ^ 64) × EndsNumber rest) × (bytes ≡ decimal 0 ++ rest)
zero_found b most rest bytes e naught ends =
    ((omega arith, omega arith, ends), rw (decimal_digit 0 (omega arith)) (rw naught at e))

pub starts_with_digit : (n : ℕ) (rest bytes : List ℕ) → n < 2 ^ 64 → bytes ≡ decimal n ++ rest
    → IsDigit (get_or bytes 0 0)
starts_with_digit n rest bytes h e =
    rw (e, get_or-append (decimal n) rest 0 0 (decimal_nonempty n h)) (decimal_first n h)

-- one more digit
pub digit_more : (bytes : List ℕ) (i value : ℕ) → i < length bytes → AllDigits 10 (take i bytes)
    → value ≡ digits_value 10 (take i bytes) → IsDigit (get_or bytes i 0)
    → AllDigits 10 (take (i + 1) bytes)
    × (value * 10 + (get_or bytes i 0 - 48) ≡ digits_value 10 (take (i + 1) bytes))
digit_more bytes i value lt d is digit =
    let v = digit_value_digit (get_or bytes i 0) digit in (
      digits_more 10 bytes i lt d (omega arith),
      rw (is, digits_value_more 10 bytes i lt) (omega arith),
    )

-- a number's spelling has no digits that write more
pub too_large : (n : ℕ) (rest bytes : List ℕ) (i value : ℕ) → n < 2 ^ 64 → EndsNumber rest
    → bytes ≡ decimal n ++ rest → i < length bytes
    → AllDigits 10 (take i bytes) → value ≡ digits_value 10 (take i bytes)
    → IsDigit (get_or bytes i 0) → value * 10 + (get_or bytes i 0 - 48) ≤ n
too_large n rest bytes i value h u e lt d is digit =
    let more = digit_more bytes i value lt d is digit in
    let least = front_value n rest bytes (i + 1) h u e more.0 (omega arith) in
    omega (arith, more.1)

pub ends_at : (bytes : List ℕ) (i : ℕ) → ¬ (IsDigit (get_or bytes i 0)) → EndsNumber (drop i bytes)
ends_at bytes i out = λ r. let same = get_or-drop i bytes 0 0 in let plus : i + 0 ≡ i =
    omega arith in out (rw (same, plus) at r)

pub ends_there : (bytes : List ℕ) (i : ℕ) → length bytes ≤ i → EndsNumber (drop i bytes)
ends_there bytes i le = ends_at bytes i (λ r. let zero = get_or_past bytes i 0 le in omega arith)

pub starts_somewhere : (n : ℕ) (rest bytes : List ℕ) → n < 2 ^ 64 → bytes ≡ decimal n ++ rest
    → 0 < length bytes
starts_somewhere n rest bytes h e = let some = decimal_nonempty n h in let both =
    length-append (decimal n) rest in rw e (omega (arith, some, both))

-- some first digits, their number, and what follows them
pub record DigitsSoFar (bytes rest : List ℕ) (value most : ℕ) : Type 0 where
  pub count : ℕ
  pub some : 0 < count
  pub within : count ≤ length bytes
  pub left : rest ≡ drop count bytes
  pub digits : AllDigits 10 (take count bytes)
  pub value_is : value ≡ digits_value 10 (take count bytes)
  pub small : value ≤ most

module _ (bytes rest : List ℕ) (value most : ℕ) (so : DigitsSoFar bytes rest value most) where
  -- what follows begins with a byte
  module _ (b : ℕ) (tail : List ℕ) (begins : rest ≡ b ∷ tail) where
    at_count : get_or bytes so.count 0 ≡ b
    at_count =
        let there = get_or-drop so.count bytes 0 0 in
        let plus : so.count + 0 ≡ so.count = omega arith in
        let is = ap (λ l. get_or l 0 0) (sym begins ∙ so.left) in
        sym (rw plus at (is ∙ there))

    more_left : so.count < length bytes
    more_left =
        let len = ap (length {A = ℕ}) (sym begins ∙ so.left) ∙ length-drop so.count bytes in
        omega (arith, len)

    -- one digit more
    pub next_digit : (n : ℕ) → IsDigit b → n ≡ value * 10 + (b - 48) → n ≤ most
        → DigitsSoFar bytes tail n most
    next_digit n digit is small =
        let here : IsDigit (get_or bytes so.count 0) = rw at_count digit in
        let one = digit_more bytes so.count value more_left so.digits so.value_is here in
        let value_too : n ≡ value * 10 + (get_or bytes so.count 0 - 48) = rw at_count is in
        record {
          count = so.count + 1;
          some = omega arith;
          within = omega (arith, more_left);
          left = ap (drop 1) (sym begins ∙ so.left) ∙ drop-drop 1 so.count bytes;
          digits = one.0;
          value_is = value_too ∙ one.1;
          small = small;
        }

    -- no smaller number has the digits
    pub least_number : IsDigit b → (n : ℕ) (after : List ℕ) → n < 2 ^ 64 → EndsNumber after
        → bytes ≡ decimal n ++ after → value * 10 + (b - 48) ≤ n
    least_number digit n after h u e =
        rw at_count at
        (too_large n after bytes so.count value h u e more_left so.digits so.value_is
        (rw at_count digit))

    pub ends_before : ¬ (IsDigit b) → EndsNumber rest
    ends_before out = λ digit. out (rw begins at digit)

  -- these are all the digits
  pub all_digits : most < 2 ^ 64 → (1 < so.count → get_or bytes 0 0 ≢ 48) → EndsNumber rest
      → ((value ≤ most) × (value < 2 ^ 64) × EndsNumber rest) × (bytes ≡ decimal value ++ rest)
  all_digits fits plain ends =
      let front = take so.count bytes in
      let size : length front ≡ so.count = length-take-le so.count bytes so.within in
      let alone : get_or front 0 0 ≡ 48 → length front ≡ 1 =
      λ naught. elim (cases_lt 1 so.count) [
        | inl more ↦ absurd (plain more (sym (get_or-take so.count bytes 0 0 so.some) ∙ naught))
        | inr one ↦ omega (arith, size, so.some, one)
      ] in
      let small : value < 2 ^ 64 = omega (arith, so.small, fits) in
      let text : decimal (digits_value 10 front) ≡ front =
      decimal-digits_value own front so.digits (omega (arith, size, so.some)) alone
      (rw so.value_is at small) in (
        (so.small, small, ends),
        rw (so.value_is, text, so.left) (sym (take-append-drop so.count bytes)),
      )
