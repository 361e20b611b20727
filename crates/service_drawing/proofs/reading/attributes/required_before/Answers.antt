use Rattle.std.proofs.Common.{rules}
use Rattle.service_drawing.proofs.Attributes.{stops_at_required}
use Rattle.service_drawing.proofs.reading.attributes.required_before.Goals as goal

pub returns-in_default-requiring : goal.returns-in_default-requiring
returns-in_default-requiring c =
    let expected = c.prefixed-expected.ensures in
    let stops = stops_at_required _ _ _ c.in-Some.text.now c.in-Some.tail.now
    c.loop-text.invariant (search rules) c.in_default-requiring.ensures in
    (rw expected.rest stops, expected.reason)
