use Rattle.history_logs.proofs.Words.{arith, length-set, refl, rules, slice_get-get_or, ◌∙◌}
use Rattle.history_logs.proofs.Conforming.{front_is, has_short, stay_same, stay_set}
use Rattle.history_logs.proofs.logs.conforming.settle_all.Goals as goal

pub loop-at-init : goal.loop-at-init
loop-at-init c =
    let added = c.in_ok-add_fronts.ensures in
    (refl, added.count, stay_same _ _ _ added.count added.same)

pub settle-requires : goal.settle-requires
settle-requires c =
    let l = c.loop-at in
    let inv = l.invariant in
    has_short _ l.services _ l.fronts.items l.at _ _
    (slice_get-get_or l.services l.at c.index-services-at.result (omega (arith, inv.0)))
    (front_is l.fronts.items l.at _ (omega (arith, inv.1)) c.index_mut.ensures.value) inv.2
    c.requires

pub loop-at-preserved : goal.loop-at-preserved
loop-at-preserved c =
    let l = c.loop-at in
    let inv = l.invariant in
    let next = c.settle.new.service in
    let front = c.settle.new.front in (
      length-set l.services l.at next ∙ inv.0,
      length-set l.fronts.items l.at front ∙ inv.1,
      stay_set _ l.services _ l.fronts.items l.at _ _
          (slice_get-get_or l.services l.at c.index-services-at.result (omega (arith, inv.0)))
          (front_is l.fronts.items l.at _ (omega (arith, inv.1)) c.index_mut.ensures.value) inv.2
          next front (omega (arith, inv.1)) (c.in_ok-settle.ensures (search rules)),
    )
