use Rattle.iox2sd_values.proofs.Prelude.{All, HasText, take, ◌+◌, ◌≤◌}
use Rattle.iox2sd_values.proofs.attributes.check_keys.Given as goal

-- the keys before the place are legal
abbrev pub invariant-loop-i : goal.invariant-loop-i
invariant-loop-i l = All HasText (take l.i l.fn.keys) × (l.fn.pairs + l.i ≤ 16)
