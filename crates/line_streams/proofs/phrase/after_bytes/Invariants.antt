use Rattle.std.proofs.Common.{◌≡◌, take}
use Rattle.line_streams.proofs.phrase.after_bytes.Given as goal

abbrev pub invariant-loop-i : goal.invariant-loop-i
invariant-loop-i l = take l.i l.bytes ≡ take l.i l.word
