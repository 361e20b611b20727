use Rattle.history_logs.proofs.FirstLines.{before_bad, before_end, before_more, before_none}
use Rattle.history_logs.proofs.logs.judging.after_lines.Goals as goal

pub loop-init : goal.loop-init
loop-init c = before_none _

pub returns-in_default : goal.returns-in_default
returns-in_default c =
    before_bad _ _ _ _ c.in_default.ensures.none c.loop-test.true c.loop.invariant

pub loop-preserved : goal.loop-preserved
loop-preserved c =
    let read = c.in-Some.ensures.read in
    before_more _ _ _ _ _ read.0 read.1 c.loop.invariant

pub returns : goal.returns
returns c = before_end _ _ _ _ c.loop.auto.counter-end c.loop-test.false c.loop.invariant
