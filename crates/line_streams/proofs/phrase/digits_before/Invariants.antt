use Rattle.std.proofs.Common.{length}
use Rattle.line_streams.proofs.Fronts.{DigitsSoFar}
use Rattle.line_streams.proofs.phrase.digits_before.Given as goal

-- the digits so far, their number, and what follows them
abbrev pub invariant-loop-b : goal.invariant-loop-b
invariant-loop-b l = DigitsSoFar l.bytes l.rest l.value l.most

abbrev pub decreases-loop-b : goal.decreases-loop-b
decreases-loop-b l = length l.rest
