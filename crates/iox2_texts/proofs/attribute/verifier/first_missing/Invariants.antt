use Rattle.std.proofs.Common.{◌≤◌, length, take}
use Rattle.std.specs.Prelude.{All, Any}
use Rattle.iox2_texts.proofs.attribute.verifier.first_missing.Given as goal

abbrev pub invariant-loop-i : goal.invariant-loop-i
invariant-loop-i g l = record {
  -- each so far is met
  met : All (λ r. Any (g.R.Requirement.IsMetBy r) l.pairs) (take l.i l.required);
  fits : l.from ≤ length l.pairs;
}
