use Rattle.iox2sd_values.proofs.Prelude.{drop, map, pair_of, slice_get, values_of, ◌≡◌}
use Rattle.iox2sd_values.proofs.attributes.value_at.Given as goal

-- what is left of the way is left of the values
abbrev pub invariant-loop-pair : goal.invariant-loop-pair
invariant-loop-pair l =
    slice_get (values_of (map pair_of (drop l.pair-index l.pairs)) l.key) l.left
    ≡ slice_get (values_of (map pair_of l.pairs) l.key) l.index
