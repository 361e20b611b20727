use Rattle.history_logs.proofs.Words.{eqb}
use Rattle.std.proofs.lemmas.List.Filters.{dedup_is}
use Rattle.history_logs.proofs.Refusing.{lines_all}
use Rattle.history_logs.proofs.logs.judging.lines_made.Goals as goal

pub returns : goal.returns
returns c =
    lines_all _ _ _ _ _ _ _ c.loop-slot-test.false
    c.loop-slot.invariant c.sort_unstable.ensures.permutation c.sort_unstable.ensures.sorted
    (dedup_is eqb _ _ c.dedup.ensures.filtered)
