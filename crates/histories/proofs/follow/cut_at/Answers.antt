use Rattle.histories.proofs.Words.{inl, inr, refl}
use Rattle.histories.proofs.follow.cut_at.Goals as goal

pub returns-else-not-begin_anew : goal.returns-else-not-begin_anew
returns-else-not-begin_anew g c =
    rw c.in-WhereQuiet.is
    (inl (refl, rw c.if-not-begin_anew.false at (c.begin_anew.ensures c.args.machine.now)))

pub returns-then-not-begin_anew : goal.returns-then-not-begin_anew
returns-then-not-begin_anew g c =
    rw c.in-WhereQuiet.is
    (inr (refl, rw c.if-not-begin_anew.true at (c.begin_anew.ensures c.args.machine.now)))
