use Rattle.std.proofs.Common.{◌≤◌, codes, length, inl, inr, arith, rules}
use Rattle.std.proofs.lemmas.List.Sorted.{length_permutation}
use Rattle.service_drawing.specs.Lines.{GivesPair, AreAttributes}
use Rattle.service_drawing.proofs.Attributes.{listed_more, stops_at_attribute}
use Rattle.service_drawing.proofs.Forms.{one_read}
use Rattle.service_drawing.proofs.reading.attributes.attributes_before.Goals as goal

pub loop-text-preserved : goal.loop-text-preserved
loop-text-preserved c =
    let read = c.loop-text.invariant in
    let all = listed_more read.each _ _ _ read.make.1 c.in-Ok.ensures.added in
    one_read (codes "attribute ") GivesPair AreAttributes _ _ _ _ _ c.in-Some.text.now _ read
    (search rules) c.in-Some-pair_in.ensures
    (omega (arith, length_permutation _ _ all.0, c.in-Ok.ensures.bound), all)

pub returns-in_default-pair_in : goal.returns-in_default-pair_in
returns-in_default-pair_in c =
    let expected = c.prefixed-expected.ensures in
    let stops = stops_at_attribute _ _ _ c.in-Some.text.now c.in-Some.tail.now
    c.loop-text.invariant (search rules) (inr c.in_default-pair_in.ensures) in
    (rw expected.rest stops, expected.reason)

pub returns-in-Err : goal.returns-in-Err
returns-in-Err c =
    let expected = c.prefixed-expected.ensures in
    let full : 16 ≤ length c.loop-text.attributes = grind (arith, c.in-Err.ensures.variant.1) in
    let stops = stops_at_attribute _ _ _ c.in-Some.text.now c.in-Some.tail.now
    c.loop-text.invariant (search rules) (inl full) in
    (rw expected.rest stops, expected.reason)
