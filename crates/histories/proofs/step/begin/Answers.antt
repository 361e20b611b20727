use Rattle.histories.proofs.Words.{[], ◌≤◌, length, refl, IfOk-weaker, AreTaken, FromOne, IsOpened, Settles, TakesSlot}
use Rattle.histories.proofs.Frontiers.{agrees_slots, frontier_begin, laid_out}
use Rattle.histories.proofs.Closing.{settles_steps}
use Rattle.histories.proofs.Lists.{not_many}
use Rattle.histories.proofs.Events.{many_open, table_begin, begin_no_end}
use Rattle.histories.proofs.step.begin.Goals as goal

pub returns : goal.returns
returns g c =
    IfOk-weaker c.lay.result _ _ (λ r lies whole events olds before after sound fresh f.
    let call = c.args.call in
    let front = c.args.front.now in
    let more = c.take_slot.new.slots.items in
    let slot = c.in-Some.slot in
    let opened = c.in_ok-front.field-0.items in
    let takes : TakesSlot front.slots.items call slot more =
    rw c.in-Some.is at c.in_ok-slot.ensures.some in
    let next = table_begin _ _ _ _ _ sound (fresh call refl) f.table takes in
    let is : Settles (g.M.Machine.Step c.args.machine.now) more
    (FromOne (IsOpened slot) front.configs.items) [] opened =
    rw c.deref.ensures.value at (rw c.replace-configs.ensures.value at
    c.in_ok-front.ensures.settles) in
    let most : length opened ≤ length front.configs.items =
    rw c.replace-configs.ensures.value at c.in_ok-front.ensures.most in
    laid_out _ _ _ _ _ _ c.lay.new.front _ (rw lies.0
    (frontier_begin _ _ _ _ _ takes f.table.few _ _ _ _ _ sound (fresh call refl) f
    (settles_steps _ _ _ (agrees_slots _ _ _ _ next after) _ _ _ is)
    (not_many _ _ most c.requires.enough))) lies.1
    (λ x ends. absurd (begin_no_end call x ends))) c.lay.ensures

pub returns-in_default : goal.returns-in_default
returns-in_default g c whole events olds before after sound fresh f =
    let taken : AreTaken c.args.front.now.slots.items =
    rw c.in_default.is at c.in_ok-slot.ensures.none in
    many_open _ _ _ sound (fresh c.args.call refl) f.table taken
