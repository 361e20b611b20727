-- `least_multiple` is what its name says.
use Rattle.std.proofs.Common.{◌≡◌, ℕ, suc, zero, ◌+◌, ◌-◌, ◌*◌, ◌%◌, ◌/◌, ◌<◌, ◌≤◌, arith, sym}
use Rattle.std.specs.Int.{◌∣◌}
use Rattle.std.proofs.Math.Nat.{dvd-mul_left, dvd-sub, le_of_dvd, mod_self, mod-eq_of_lt}
use Rattle.std.proofs.lemmas.Nat.{div-add-mod', mod_below}
use Rattle.iox2_texts.specs.Multiple.{IsLeastMultiple, least_multiple}

pub least_multiple-ge : (x a : ℕ) → x ≤ least_multiple x a
unfolding least_multiple
least_multiple-ge x a = omega arith

pub least_multiple-lt : (x a : ℕ) → 0 < a → least_multiple x a < x + a
unfolding least_multiple
least_multiple-lt x a h = omega (arith, mod_below (a - x % a) a h)

-- what is added to reach a multiple, where x is q * a + r
padded : (x a q r : ℕ) → 0 < a → r < a → x ≡ q * a + r → (k : ℕ) × (x + (a - r) % a ≡ k * a)
padded x a q zero h below e = let k = mod_self a in (q, grind arith)
padded x a q (suc r) h below e = (q + 1, grind (arith, mod-eq_of_lt))

pub least_multiple-dvd : (x a : ℕ) → 0 < a → a ∣ least_multiple x a
unfolding least_multiple
least_multiple-dvd x a h =
    let p = padded x a (x / a) (x % a) h (mod_below x a h) (sym (div-add-mod' x a)) in
    rw p.1 (dvd-mul_left a p.0)

-- two multiples of a, the one less than a above the other, are in order
pub multiples_apart : (a y z : ℕ) → a ∣ y → a ∣ z → y < z + a → y ≤ z
multiples_apart a y z ay az near = grind (arith, le_of_dvd, dvd-sub)

pub least_multiple-is : (x a : ℕ) → 0 < a → IsLeastMultiple x a (least_multiple x a)
least_multiple-is x a h =
    let below = least_multiple-lt x a h in
    let divides = least_multiple-dvd x a h in
    (least_multiple-ge x a, divides, λ z over az. grind (arith, multiples_apart))

pub same_from_least : (x a y z : ℕ) → IsLeastMultiple x a y → IsLeastMultiple x a z → y ≡ z
same_from_least x a y z p q = grind arith

pub ruleset multiples = (least_multiple-ge, least_multiple-lt, least_multiple-is)
