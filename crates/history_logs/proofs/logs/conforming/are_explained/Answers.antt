use Rattle.history_logs.proofs.Words.{arith, length, refl, rules, slice_get_read, sym, ◌∙◌}
use Rattle.history_logs.proofs.Conforming.{front_is, right_all, right_short, right_to_more, right_to_none}
use Rattle.history_logs.proofs.logs.conforming.are_explained.Goals as goal

pub loop-at-init : goal.loop-at-init
loop-at-init c =
    right_to_none _ _ _ c.in_ok-add_fronts.ensures.count c.in_ok-add_fronts.ensures.same

pub is_explained-requires : goal.is_explained-requires
is_explained-requires c =
    let l = c.loop-at in
    let live = c.args.services.now in
    right_short live _ l.fronts.items l.at _ _
    (slice_get_read live (length live) l.at _ refl c.loop-at-test.true c.index-services-at.is)
    (front_is l.fronts.items l.at _ (omega (arith, l.invariant.long)) c.index_mut.ensures.value
    ∙ sym c.take.ensures.value) l.invariant c.requires

pub loop-at-preserved : goal.loop-at-preserved
loop-at-preserved c =
    let l = c.loop-at in
    let live = c.args.services.now in
    right_to_more live _ l.fronts.items l.at _ _
    (slice_get_read live (length live) l.at _ refl c.loop-at-test.true c.index-services-at.is)
    (front_is l.fronts.items l.at _ (omega (arith, l.invariant.long)) c.index_mut.ensures.value
    ∙ sym c.take.ensures.value) l.invariant _ (c.in_ok-is_explained.ensures (search rules))

pub returns : goal.returns
returns c = λ yes.
    right_all _ _ _ _ (search rules) c.loop-at.invariant
