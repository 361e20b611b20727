use Rattle.std.proofs.Common.{arith, rules}
use Rattle.std.specs.Prelude.{Any}
use Rattle.std.proofs.lemmas.List.Elements.{All-more}
use Rattle.iox2_texts.proofs.VerifyLemmas.{all_of_take}
use Rattle.iox2_texts.proofs.attribute.verifier.first_missing.Goals as goal

pub loop-i-preserved : goal.loop-i-preserved
loop-i-preserved g c = record {
  met =
      All-more (λ r. Any (g.R.Requirement.IsMetBy r) c.args.pairs.now) c.args.required.now
      c.loop-i.i c.index-required-i.result c.loop-i-test.true c.loop-i.invariant.met
      (rw c.index-required-i.is at c.in-Some.ensures.1);
  fits = omega (arith, c.in-Some.ensures.0);
}

pub returns : goal.returns
returns g c = search (rules, all_of_take)
