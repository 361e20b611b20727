use Rattle.iox2sd_values.proofs.Prelude.{All-more, IsLegal, all_of_take, arith}
use Rattle.iox2sd_values.proofs.attributes.check_pairs.Goals as goal

pub loop-i-preserved : goal.loop-i-preserved
loop-i-preserved c =
    let kept = c.loop-i.invariant in (
      All-more IsLegal c.args.pairs.now c.loop-i.i _ c.loop-i-test.true kept.0 (
        c.is_name.ensures.0 c.if-not-is_name.false,
        c.is_name-in-loop-i.ensures.0 c.if-not-is_name-2.false,
      ),
      omega (arith, kept.1, c.if-i-eq-MAX_ATTRIBUTES.false),
    )

pub returns : goal.returns
returns c =
    let kept = c.loop-i.invariant in (
      all_of_take IsLegal c.args.pairs.now c.loop-i.i c.loop-i-test.false kept.0,
      omega (arith, kept.1, c.loop-i-test.false),
    )
