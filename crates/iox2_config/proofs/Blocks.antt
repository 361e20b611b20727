-- A block of the size `sample_size` holds its message, wherever the header lies.
use Rattle.std.proofs.Common.{ℕ, ◌+◌, ◌*◌, ◌^◌, ◌<◌, ◌≤◌, arith}
use Rattle.std.specs.Prelude.{IsTrue}
use Rattle.std.specs.Int.{◌∣◌, is_power_of_two}
use Rattle.std.proofs.Math.Nat.{dvd_refl, dvd_trans, dvd-add, dvd-mul_left_of_dvd, mul-le-mul_right}
use Rattle.iox2_texts.proofs.Multiple.{least_multiple-ge, least_multiple-lt, least_multiple-dvd}
use Rattle.iox2_config.specs.Blocks.{HoldsMessage, HoldsEverywhere}
use Rattle.iox2_config.specs.Layout.{sample_size, payload_part, parts, element, HaveAlignments}
use Rattle.iox2_config.specs.Parts.{IsAligned, Within, Holds}
use Rattle.iox2_config.specs.TypeDetailParts.{IsAlignment}
use Rattle.iox2_config.specs.declared.types.message_details.MessageTypeDetails.{MessageTypeDetails}
use Rattle.iox2_config.proofs.Rounding.{smaller_divides}

-- an opener's alignment, which is at most the service's, divides it
divides : (o s : ℕ) → IsTrue (is_power_of_two o) → IsAlignment s → 0 < s → o ≤ s → o ∣ s
divides o s power is some below = grind (arith, smaller_divides)

module _ (d : MessageTypeDetails) (n header : ℕ) (given : HaveAlignments d) where
  -- the parts hold with all alignments that divide the service's
  parts_hold : (o : MessageTypeDetails) → o.header.alignment ∣ header
      → o.user_header.alignment ∣ d.user_header.alignment
      → o.payload.alignment ∣ d.payload.alignment
      → Holds header (sample_size d n) (parts d o header n)
  parts_hold o at user payload =
      grind (arith, least_multiple-ge, least_multiple-lt, least_multiple-dvd, dvd_trans)

  -- so does each element where the alignment divides the size too
  element_holds : (o : MessageTypeDetails) → o.payload.alignment ∣ d.payload.alignment
      → o.payload.alignment ∣ d.payload.size
      → (i : ℕ) → i < n → IsAligned (element d o header i)
      × Within (payload_part d o header n) (element d o header i)
  element_holds o payload whole i below =
      grind (arith, dvd_trans, dvd-add, dvd-mul_left_of_dvd, mul-le-mul_right, least_multiple-dvd)

-- the alignments are those that details can have
pub record AreAlignments (d : MessageTypeDetails) : Type 0 where
  pub header : IsAlignment d.header.alignment
  pub user_header : IsAlignment d.user_header.alignment
  pub payload : IsAlignment d.payload.alignment

holds_message : (d : MessageTypeDetails) (n header : ℕ) → HaveAlignments d → AreAlignments d
    → d.header.alignment ∣ header
    → header + sample_size d n < 2 ^ 64 → HoldsMessage d n (sample_size d n) header
holds_message d n header given are lies fits = record {
  offset_fits = grind (arith, least_multiple-ge, least_multiple-lt);
  own = search (parts_hold, dvd_refl);
  openers = λ o may.
      parts_hold d n header given o (rw may.compatible.header lies) (grind (arith, divides))
      (grind (arith, divides));
  elements = λ o may whole i below.
      element_holds d n header given o (grind (arith, divides))
      (rw may.compatible.payload.size at whole) i below;
}

pub holds_everywhere : (d : MessageTypeDetails) (n : ℕ) → HaveAlignments d → AreAlignments d
    → HoldsEverywhere d n (sample_size d n)
holds_everywhere d n given are = record {
  alone = search holds_message;
  in_rows = λ header count lies fits i below.
      holds_message d n (header + i * sample_size d n) given are
      (search (dvd-add, dvd-mul_left_of_dvd, least_multiple-dvd, given.header))
      (grind (arith, mul-le-mul_right));
  apart = λ header i j below offset first second. grind (arith, mul-le-mul_right);
}
