use Rattle.std.proofs.Common.{◌≡◌, ℕ, ◌-◌, ◌*◌, [], length, drop, w64}
use Rattle.std.specs.Int.{to_le_bytes}
use Rattle.iox2_ids.specs.Digits.{padded}
use Rattle.iox2_ids.proofs.identifiers.hexadecimal.sixteen_digits.Given as goal

abbrev pub invariant-loop-i : goal.invariant-loop-i
invariant-loop-i l = record {
  len : length l.digits ≡ 16;
  same : (n : ℕ) → l.bytes ≡ to_le_bytes w64 n
      → drop (16 - 2 * l.i) l.digits ≡ padded (2 * l.i) n [];
}
