-- Where the parts of a message end.
use Rattle.std.proofs.Common.{◌≡◌, ℕ, ◌+◌, ◌*◌, ◌^◌, ◌<◌, ◌≤◌, ◌↔◌, Bool, true, false, ◌&&◌, ltb, if◌then◌else◌, zero, suc, IsTrue, refl, sym, ap, ◌∙◌, Option, Some, None, SomeIff, arith}
use Rattle.std.proofs.lemmas.Bool.{true≢false}
use Rattle.std.proofs.lemmas.Bool.Decides.{nat_tests}
use Rattle.std.proofs.Math.Nat.{le-mul_of_pos_right, mul-le-mul_right}
use Rattle.std.proofs.lemmas.Nat.Gcd.{dvd-zero}
use Rattle.iox2_config.specs.Blocks.{HoldsEverywhere}
use Rattle.iox2_config.specs.Layout.{HaveAlignments, sample_size, user_header_offset, payload_offset}
use Rattle.service_drawing.specs.Layout.{fitting, layout_of, whole_layout}
use Rattle.iox2_config.specs.declared.types.message_details.MessageTypeDetails.{MessageTypeDetails}

-- the parts of a message at the offset 0 end within its size
pub ends_inside : (d : MessageTypeDetails) (n size : ℕ) → HoldsEverywhere d n size → size < 2 ^ 63
    → (user_header_offset d 0 + d.user_header.size ≤ size)
    × (payload_offset d 0 + d.payload.size * n ≤ size)
ends_inside d n size h limit = grind (arith, dvd-zero)

-- an element ends where the payload does, or before
pub element_inside : (start element elements i end : ℕ) → end ≡ start + element * elements
    → i < elements
    → start + i * element + element ≤ end
element_inside start element elements i end is there = grind (arith, mul-le-mul_right)

-- elements begin where the payload ends, or before
pub elements_inside : (start element elements i end : ℕ) → end ≡ start + element * elements
    → i ≤ elements
    → start + i * element ≤ end
elements_inside start element elements i end is there = grind (arith, mul-le-mul_right)

-- so many ports take no less than one
pub no_less : (bytes ports : ℕ) → 0 < ports → bytes ≤ bytes * ports
no_less bytes ports some = le-mul_of_pos_right bytes some

-- where no flag says that three numbers are positive, one is not
unaligned : (a b c : ℕ) (fits given : Bool) → (0 < a → 0 < b → 0 < c → given ≡ true)
    → given ≡ false → (ltb 0 a && ltb 0 b && ltb 0 c && fits) ≡ false
unaligned zero b c fits given h none = refl
unaligned (suc a) zero c fits given h none = grind (arith, nat_tests)
unaligned (suc a) (suc b) zero fits given h none = grind (arith, nat_tests)
unaligned (suc a) (suc b) (suc c) fits given h none =
    absurd (true≢false (sym (h (omega arith) (omega arith) (omega arith)) ∙ none))

-- there is no layout without alignments
pub no_alignment : (d : MessageTypeDetails) (n : ℕ) (given : Bool)
    → (IsTrue given ↔ HaveAlignments d) → given ≡ false → layout_of d n ≡ None
unfolding layout_of
no_alignment d n given h none =
    ap (λ (has : Bool). if has then Some (whole_layout d n) else None)
    (unaligned d.header.alignment d.user_header.alignment d.payload.alignment
    (ltb (sample_size d n) (2 ^ 63)) given
    (λ a b c. h.1 (record { header = a; user_header = b; payload = c })) none)

-- there is none that takes too much
pub too_large : (d : MessageTypeDetails) (n : ℕ) → 2 ^ 63 ≤ sample_size d n → layout_of d n ≡ None
unfolding layout_of
too_large d n large = grind (arith, nat_tests)

-- there is one otherwise
pub laid_out : (d : MessageTypeDetails) (n : ℕ) → HaveAlignments d → sample_size d n < 2 ^ 63
    → layout_of d n ≡ Some (whole_layout d n)
unfolding layout_of
laid_out d n given fits = grind (arith, nat_tests)

-- a number that is returned exactly where it fits
pub fits_so : (found : Option ℕ) (n : ℕ) → SomeIff found (n < 2 ^ 64) n → found ≡ fitting n
unfolding fitting
fits_so (Some m) n h = grind (arith, nat_tests)
fits_so None n h = grind (arith, nat_tests)
