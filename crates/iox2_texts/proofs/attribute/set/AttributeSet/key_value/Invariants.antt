use Rattle.std.proofs.Common.{◌≡◌, slice_get, drop}
use Rattle.iox2_texts.specs.Attribute.{values_of}
use Rattle.iox2_texts.proofs.attribute.set.AttributeSet.key_value.Given as goal

-- what is left of the way is left of the values
abbrev pub invariant-loop-attribute : goal.invariant-loop-attribute
invariant-loop-attribute l =
    slice_get (values_of (drop l.attribute-index l.attribute-items) l.key) l.left
    ≡ slice_get (values_of l.attribute-items l.key) l.index
