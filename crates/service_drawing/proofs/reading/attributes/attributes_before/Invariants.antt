use Rattle.std.proofs.Common.{length}
use Rattle.service_drawing.proofs.Attributes.{Reading}
use Rattle.service_drawing.proofs.reading.attributes.attributes_before.Given as goal

abbrev pub invariant-loop-text : goal.invariant-loop-text
invariant-loop-text l = Reading l.attributes l.rest l.fn.bytes

abbrev pub decreases-loop-text : goal.decreases-loop-text
decreases-loop-text l = length l.rest
