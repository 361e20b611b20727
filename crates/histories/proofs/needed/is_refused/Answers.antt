use Rattle.histories.proofs.Words.{eqb-true}
use Rattle.histories.proofs.Leaving.{tried_done, tried_refused}
use Rattle.histories.proofs.needed.is_refused.Goals as goal

pub loop-at-preserved : goal.loop-at-preserved
loop-at-preserved g c =
    tried_done _ _ _ _ _ _ c.loop-at-test.true c.requires.formed c.loop-at.front c.advance.new.front
    c.loop-at.invariant (rw c.in-Done.is at c.in_ok-advance.ensures)

pub returns-in-Refused : goal.returns-in-Refused
returns-in-Refused g c last =
    tried_refused _ _ _ _
    _ _ c.loop-at-test.true c.requires.formed c.loop-at.front c.advance.new.front
    c.loop-at.invariant (rw c.in-Refused.is at c.in_ok-advance.ensures) (eqb-true _ _ last)
