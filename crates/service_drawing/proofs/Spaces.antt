-- Spaces side by side.
use Rattle.std.proofs.Common.{◌≡◌, ℕ, ◌+◌, ◌≤◌, ◌<◌, ◌==◌, ◌↔◌, List, IsTrue, nat_lt, cond, count_by, length, slice_index, take, arith}
use Rattle.std.proofs.lemmas.Bool.{lt-ltb, ltb-true}
use Rattle.std.proofs.lemmas.List.{take-take}
use Rattle.std.proofs.lemmas.List.Sums.{sum_by-take-le}
use Rattle.service_drawing.specs.Descriptions.{HasTwoSpaces, words_behind}
use Rattle.service_drawing.specs.Settings.{word_of}

-- no more spaces stand before an earlier place
fewer_before : (line : List ℕ) (i j : ℕ) → i ≤ j
    → count_by (λ b. b == 32) (take i line) ≤ count_by (λ b. b == 32) (take j line)
fewer_before line i j h =
    rw (take-take i j line h) at (sum_by-take-le (λ b. cond (b == 32) 1 0) (take j line) i)

-- the first two spaces tell
pub first_two : (line : List ℕ) (at m n : ℕ)
    → (at + 1 < length line) × (slice_index line at ≡ 32) × (slice_index line (at + 1) ≡ 32)
    → ((i : ℕ) → i + 1 < length line → slice_index line i ≡ 32 → slice_index line (i + 1) ≡ 32
    → at ≤ i) → m ≡ count_by (λ b. b == 32) (take at line) → n ≡ words_behind (word_of line)
    → IsTrue (nat_lt m n) ↔ HasTwoSpaces line
first_two line at m n there first before wanted = (
  λ less.
      record {
        at = at;
        within = there.0;
        first = there.1;
        second = there.2;
        among = omega (arith, before, wanted, ltb-true m n less);
      },
  λ two.
      let earlier = fewer_before line at two.at (first two.at two.within two.first two.second) in
      lt-ltb m n (omega (arith, before, wanted, earlier, two.among)),
)
