-- Rounding up to a power of two by a mask, and that a smaller power of two divides a larger one.
use Rattle.std.proofs.Common.{◌≡◌, ℕ, suc, zero, ◌+◌, ◌-◌, ◌%◌, ◌/◌, ◌^◌, ◌≤◌, arith, inl, inr, eqb-true, ◌*◌, ◌<◌, ◌∙◌, bit_and}
use Rattle.std.specs.Prelude.{IsTrue, count_ones}
use Rattle.std.specs.Int.{◌∣◌, is_power_of_two}
use Rattle.std.proofs.Math.Nat.{dvd-mul_right, pow-suc, dvd-mul_left}
use Rattle.std.proofs.lemmas.Nat.{zero_from_ones, ones_le_self, pow_below, pow-add, div-add-mod', mod_below, pow_pos}
use Rattle.std.proofs.lemmas.Bool.{cases_lt}
use Rattle.std.specs.Int.Count.{ones_step}
use Rattle.std.proofs.lemmas.Nat.Bits.{and_high_mask}
use Rattle.iox2_texts.specs.Multiple.{least_multiple}
use Rattle.iox2_texts.proofs.Multiple.{least_multiple-ge, least_multiple-dvd, least_multiple-is, multiples_apart, same_from_least}

one_bit_even : (n : ℕ) → (k : ℕ) × (n / 2 ≡ 2 ^ k) → n % 2 ≡ 0 → (k : ℕ) × (n ≡ 2 ^ k)
one_bit_even n (k, h) m = (suc k, let p = pow-suc 2 k in omega arith)

-- the halves of a number with one bit, down to 1
one_bit : (d n : ℕ) → n ≤ d → count_ones n ≡ 1 → (k : ℕ) × (n ≡ 2 ^ k)
one_bit zero n h e = absurd (let l = ones_le_self n in omega arith)
one_bit (suc d) n h e =
    let s = ones_step n in
    let l = ones_le_self n in
    elim (cases_lt 0 (n % 2)) [
      | inl o ↦ (0, let z = zero_from_ones (n / 2) (omega arith) in omega arith)
      | inr o ↦ one_bit_even n (one_bit d (n / 2) (omega arith) (omega arith)) (omega arith)
    ]

pub power_from_test : (n : ℕ) → IsTrue (is_power_of_two n) → (k : ℕ) × (n ≡ 2 ^ k)
power_from_test n h = one_bit n n (omega arith) (eqb-true (count_ones n) 1 h)

-- one power of two divides another that is not below it
pub powers_divide : (i j : ℕ) → 2 ^ i ≤ 2 ^ j → 2 ^ i ∣ 2 ^ j
powers_divide i j h =
    let k : i ≤ j = grind (arith, pow_below) in
    let m : i + (j - i) ≡ j = omega arith in
    rw (← m, pow-add 2 i (j - i)) (dvd-mul_right (2 ^ i) (2 ^ (j - i)))

pub smaller_divides : (a b : ℕ) → IsTrue (is_power_of_two a) → IsTrue (is_power_of_two b) → a ≤ b
    → a ∣ b
smaller_divides a b p q h =
    let i = power_from_test a p in
    let j = power_from_test b q in
    rw (i.1, j.1) (powers_divide i.0 j.0 (omega arith))

-- a power of two is not zero
pub power_positive : (a : ℕ) → IsTrue (is_power_of_two a) → 0 < a
power_positive a power = grind (arith, power_from_test, pow_pos)

-- the last multiple up to n = v + (a - 1) is the first from v on
last_is_least : (v a n : ℕ) → 0 < a → n ≡ v + (a - 1) → n / a * a ≡ least_multiple v a
last_is_least v a n positive e =
    let multiple = dvd-mul_left a (n / a) in
    same_from_least v a (n / a * a) (least_multiple v a)
    (grind (arith, div-add-mod', mod_below, multiples_apart)) (least_multiple-is v a positive)

-- the mask clears what is over the last multiple
pub rounded : (v a n mask : ℕ) → IsTrue (is_power_of_two a) → a < 2 ^ 64 → n ≡ v + (a - 1)
    → n < 2 ^ 64 → mask ≡ 2 ^ 64 - a
    → bit_and n mask ≡ least_multiple v a
rounded v a n mask power fits e below is =
    let p = power_from_test a power in
    let within : p.0 ≤ 64 = grind (arith, pow_below 64 p.0, p.1) in
    let last = last_is_least v a n (power_positive a power) e in
    rw (is, p.1) (and_high_mask 64 p.0 within n below ∙ rw (← p.1) last)

-- and where there is no room for the mask, the multiple does not fit
pub not_rounded : (v a : ℕ) → IsTrue (is_power_of_two a) → a < 2 ^ 64 → 2 ^ 64 ≤ v + (a - 1)
    → 2 ^ 64 ≤ least_multiple v a
not_rounded v a power fits over =
    let p = power_from_test a power in
    let positive = power_positive a power in
    let divides : a ∣ 2 ^ 64 = rw p.1 (powers_divide p.0 64 (omega arith)) in
    multiples_apart a (2 ^ 64) (least_multiple v a) divides (least_multiple-dvd v a positive)
    (omega (arith, least_multiple-ge v a))
