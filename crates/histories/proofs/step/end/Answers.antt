use Rattle.histories.proofs.Words.{◌∙◌, inl, refl, IfOk-weaker, IsSameFront, HasSlot, HasMany, IsClosed}
use Rattle.histories.proofs.Frontiers.{call_ended, front_same, many_orders, no_slot}
use Rattle.histories.proofs.step.end.Goals as goal

pub returns-in_default : goal.returns-in_default
returns-in_default g c whole events olds before after sound fresh f =
    no_slot _ _ _ _ (inl refl) f.table
    (rw c.deref.ensures.value at (rw c.in_default.is at c.slot_of.ensures.none))

pub end_in_place-requires-clause-has : goal.end_in_place-requires-clause-has
end_in_place-requires-clause-has g c = (rw c.deref.ensures.value at c.in-Some.ensures.some).1

pub returns-in-Some-2 : goal.returns-in-Some-2
returns-in-Some-2 g c whole events olds before after sound fresh f =
    let front = c.args.front.now in
    let here : HasSlot front.slots.items c.in-Some.slot c.args.call =
    (rw c.deref.ensures.value at c.in-Some.ensures.some).1 in
    let ends = rw c.in-Some-2.is at c.in_ok-done.ensures in
    call_ended _ _ _ _ front c.end_in_place.new.front _ _ _ _ before here (ends.1 f.once) f ends.2

pub close-requires-clause-taken : goal.close-requires-clause-taken
close-requires-clause-taken g c =
    let same : IsSameFront c.args.front.now c.end_in_place.new.front =
    rw c.in_default-2.is at c.in_ok-done.ensures in (
      c.args.call,
      rw (c.deref-2.ensures.value ∙ same.0) (rw c.deref.ensures.value at c.in-Some.ensures.some).1,
    )

pub returns-in-Some-3 : goal.returns-in-Some-3
returns-in-Some-3 g c =
    IfOk-weaker c.finish.result _ _ (λ r is whole events olds before after sound fresh f.
    let Made = g.M.Machine.Step c.args.machine.now in
    let old = c.args.front.now in
    let front = c.end_in_place.new.front in
    let same : IsSameFront old front = rw c.in_default-2.is at c.in_ok-done.ensures in
    let here : HasSlot front.slots.items c.in-Some.slot c.args.call =
    rw same.0 (rw c.deref.ensures.value at c.in-Some.ensures.some).1 in
    let made : IsClosed Made front.slots.items front.configs.items c.in-Some.slot
    c.in-Some-3.closed.items =
    rw c.in-Some-3.is at (rw c.deref-2.ensures.value at (rw c.replace-configs.ensures.value at
    c.in_ok-closed.ensures)) in
    call_ended _ _ _ _ front c.finish.new.front _ _
    _ _ before here made (front_same _ _ _ old front same f) is) c.finish.ensures

pub returns-in-None : goal.returns-in-None
returns-in-None g c whole events olds before after sound fresh first =
    let Made = g.M.Machine.Step c.args.machine.now in
    let front = c.end_in_place.new.front in
    let f = front_same _ _ _ c.args.front.now front
    (rw c.in_default-2.is at c.in_ok-done.ensures) first in
    let many : HasMany Made front.slots.items front.configs.items =
    rw c.in-None.is at (rw c.deref-2.ensures.value at (rw c.replace-configs.ensures.value at
    c.in_ok-closed.ensures)) in
    inl (many_orders _ _ _ _ front before many f)
