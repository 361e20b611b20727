use Rattle.histories.proofs.Words.{rules}
use Rattle.histories.proofs.Alone.{made_alone}
use Rattle.histories.proofs.step.make_alone.Goals as goal

pub returns : goal.returns
returns g c =
    made_alone _ _ _ _ _ _ _ _
    (rw c.deref.ensures.value at (c.are_free.ensures.yes c.if-not-are_free.false)) (search rules)
    c.index_mut.ensures.value (rw c.if-not-branch.false at c.in_ok-make_in.ensures)
