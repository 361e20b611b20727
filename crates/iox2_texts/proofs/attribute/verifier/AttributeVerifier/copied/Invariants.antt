use Rattle.std.proofs.Common.{◌≡◌, ◌≤◌, take, length}
use Rattle.iox2_texts.proofs.attribute.verifier.AttributeVerifier.copied.Given as goal

-- the copies are those of the keys that were passed
abbrev pub invariant-loop-key : goal.invariant-loop-key
invariant-loop-key l = (l.keys.items ≡ take l.key-index l.key-items) × (length l.key-items ≤ 16)
