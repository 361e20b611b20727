-- That sizes and alignments are those that types may have. This proof stands here since a `ghost`
-- member of an implementation, such as the `lawful` of `ZeroCopySend`, may name `specs` alone.
use Rattle.std.specs.Prelude.{◌≡◌, ℕ, ◌*◌, ◌^◌, ◌==◌, IsTrue, refl}
use Rattle.std.specs.Int.Count.{ones}
use Rattle.std.proofs.Common.{sym, ◌∙◌, ap, subst, add-zero}
use Rattle.std.proofs.Math.Nat.{dvd-mul_left, one-mul}
use Rattle.std.proofs.lemmas.Nat.{ones_cat, pow_pos}
use Rattle.iox2_config.specs.TypeDetailParts.{IsTypeLayout}

-- a power of two has one bit
one_bit : (k : ℕ) → ones (2 ^ k) ≡ 1
unfolding ones
one_bit k = ap ones (sym (add-zero (1 * 2 ^ k) ∙ one-mul (2 ^ k))) ∙ ones_cat k 1 0 (pow_pos k)

-- a type of n units, each of which is a power of two and the alignment
pub units : (k n : ℕ) → IsTypeLayout (n * 2 ^ k) (2 ^ k)
units k n = record {
  power = subst (λ bits. IsTrue (bits == 1)) (sym (one_bit k)) refl;
  whole = dvd-mul_left (2 ^ k) n;
}
