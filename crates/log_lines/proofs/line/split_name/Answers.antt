use Rattle.std.proofs.Common.{arith}
use Rattle.log_lines.proofs.Names.{letters_more}
use Rattle.log_lines.proofs.line.split_name.Goals as goal

pub loop-at-preserved : goal.loop-at-preserved
loop-at-preserved c =
    letters_more c.args.line.now c.loop-at.at c.loop-at-test.true c.loop-at.invariant
    (grind (
      arith,
      c.if-not-is_ascii_alphanumeric.false,
      c.if-not-is_ascii_alphanumeric.ensures.value,
    ))
