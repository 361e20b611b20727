use Rattle.std.proofs.Common.{◌≡◌, ◌≤◌, take, length}
use Rattle.iox2_texts.proofs.attribute.set.AttributeSet.copied.Given as goal

-- the copies are those of the pairs that were passed
abbrev pub invariant-loop-attribute : goal.invariant-loop-attribute
invariant-loop-attribute l =
    (l.attributes.items ≡ take l.attribute-index l.attribute-items)
    × (length l.attribute-items ≤ 16)
