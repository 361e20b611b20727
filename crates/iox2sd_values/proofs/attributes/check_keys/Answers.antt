use Rattle.iox2sd_values.proofs.Prelude.{All-more, HasText, all_of_take, arith}
use Rattle.iox2sd_values.proofs.attributes.check_keys.Goals as goal

pub loop-i-preserved : goal.loop-i-preserved
loop-i-preserved c =
    let kept = c.loop-i.invariant in (
      All-more HasText c.args.keys.now c.loop-i.i _ c.loop-i-test.true kept.0
          (c.is_name.ensures.0 c.if-not-is_name.false),
      omega (arith, kept.1, c.if-pairs-i-eq-MAX_ATTRIBUTES.false),
    )

pub returns : goal.returns
returns c =
    let kept = c.loop-i.invariant in (
      all_of_take HasText c.args.keys.now c.loop-i.i c.loop-i-test.false kept.0,
      omega (arith, kept.1, c.loop-i-test.false),
    )
