use Rattle.std.proofs.lemmas.Grind.{common_steps}
use Rattle.histories.proofs.Words.{arith, length-append}
use Rattle.histories.proofs.Lists.{laid_out_more}
use Rattle.histories.proofs.front.lay_calls.Goals as goal

pub loop-call-preserved : goal.loop-call-preserved
loop-call-preserved c = grind (arith, common_steps, length-append, laid_out_more)
