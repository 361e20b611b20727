use Rattle.history_logs.proofs.Conforming.{AreRightTo}
use Rattle.history_logs.proofs.logs.conforming.are_explained.Given as goal

abbrev pub invariant-loop-at : goal.invariant-loop-at
invariant-loop-at l = AreRightTo l.services l.fn.fronts.items l.fronts.items l.at
