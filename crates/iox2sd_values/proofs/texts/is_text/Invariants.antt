use Rattle.iox2sd_values.proofs.Prelude.{list_all, take, ◌≡◌}
use Rattle.iox2sd_values.proofs.Legal.{is_legal}
use Rattle.iox2sd_values.proofs.texts.is_text.Given as goal

-- whether the bytes before the place are legal
abbrev pub invariant-loop-byte : goal.invariant-loop-byte
invariant-loop-byte l = l.legal ≡ list_all is_legal (take l.byte-index l.fn.bytes)
