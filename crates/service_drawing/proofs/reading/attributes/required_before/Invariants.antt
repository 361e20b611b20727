use Rattle.std.proofs.Common.{length}
use Rattle.service_drawing.proofs.Attributes.{Requiring}
use Rattle.service_drawing.proofs.reading.attributes.required_before.Given as goal

abbrev pub invariant-loop-text : goal.invariant-loop-text
invariant-loop-text l = Requiring l.required l.rest l.fn.bytes

abbrev pub decreases-loop-text : goal.decreases-loop-text
decreases-loop-text l = length l.rest
