use Rattle.iox2sd_values.proofs.Prelude.{All, IsLegal, take, ◌≤◌}
use Rattle.iox2sd_values.proofs.attributes.check_pairs.Given as goal

-- the pairs before the place are legal
abbrev pub invariant-loop-i : goal.invariant-loop-i
invariant-loop-i l = All IsLegal (take l.i l.fn.pairs) × (l.i ≤ 16)
