use Rattle.histories.proofs.Words.{inl, inr, refl, IfOk-weaker, HasSlot, FromOne, Gathers, HasMany, IsClosed, IsDropped}
use Rattle.histories.proofs.Closing.{closed_as}
use Rattle.histories.proofs.Frontiers.{agrees_slots, finished, frontier_crash, many_orders, no_slot, slot_ends}
use Rattle.histories.proofs.Gathering.{gathers_through}
use Rattle.histories.proofs.step.crash.Goals as goal

pub returns-in_ok-more-in-Some-2 : goal.returns-in_ok-more-in-Some-2
returns-in_ok-more-in-Some-2 g c =
    IfOk-weaker c.finish.result _ _ (λ r is whole events olds before after sound fresh f.
    let Made = g.M.Machine.Step c.args.machine.now in
    let call = c.args.call in
    let front = c.args.front.now in
    let slots = front.slots.items in
    let configs = front.configs.items in
    let slot = c.in-Some.slot in
    let closed = c.in-Some-2.closed.items in
    let all = c.in_ok-more-in-Some-2.more.items in
    let here : HasSlot slots slot call = (rw c.deref.ensures.value at c.in-Some.ensures.some).1 in
    let made : IsClosed Made slots configs slot closed =
    rw c.in-Some-2.is at (rw c.deref-3.ensures.value at (rw c.replace-configs.ensures.value at
    c.in_ok-closed.ensures)) in
    let drops : Gathers (FromOne (IsDropped slot) configs) closed all =
    gathers_through _ _ _ _
    (rw c.deref-2.ensures.value at c.in_ok-dropped.ensures) c.in_ok-more-in-Some-2.ensures in
    finished _ _ _ _ front c.finish.new.front _ _ _ (λ more frees.
    frontier_crash _ _ _ _ frees f.table.few _ _ _ _ _ _ here f
    (closed_as _ _ _ (agrees_slots _ _ _ _ f.table before) _ _ _ made) _ drops)
    (slot_ends _ _ _ _ _ (inr refl) f.table here) is) c.finish.ensures

pub returns-in_default : goal.returns-in_default
returns-in_default g c whole events olds before after sound fresh f =
    no_slot _ _ _ _ (inr refl) f.table
    (rw c.deref.ensures.value at (rw c.in_default.is at c.slot_of.ensures.none))

pub returns-in-None : goal.returns-in-None
returns-in-None g c whole events olds before after sound fresh f =
    let Made = g.M.Machine.Step c.args.machine.now in
    let front = c.args.front.now in
    let many : HasMany Made front.slots.items front.configs.items =
    rw c.in-None.is at (rw c.deref-3.ensures.value at (rw c.replace-configs.ensures.value at
    c.in_ok-closed.ensures)) in
    inl (many_orders _ _ _ _ front before many f)

pub close-requires-clause-taken : goal.close-requires-clause-taken
close-requires-clause-taken g c = (
  c.args.call,
  rw c.deref-3.ensures.value (rw c.deref.ensures.value at c.in-Some.ensures.some).1,
)
