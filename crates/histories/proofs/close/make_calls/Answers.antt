use Rattle.histories.proofs.Words.{rules, ◌≡◌, length, on_ok_weaker}
use Rattle.histories.proofs.Closing.{goes_all}
use Rattle.histories.proofs.Gathering.{settles_beside, settles_last, settles_none, settles_slot}
use Rattle.histories.proofs.close.make_calls.Goals as goal

pub loop-other-preserved-in_default : goal.loop-other-preserved-in_default
loop-other-preserved-in_default g c =
    settles_slot (g.M.Machine.Step c.args.machine.now) _ c.args.config _ _ _ _ _
    c.loop-other.invariant (settles_none _ _ _ _
    (λ few k next. c.in_default.ensures.none next.1.0 (next.0, next.1.1)))

pub loop-other-preserved : goal.loop-other-preserved
loop-other-preserved g c =
    settles_slot (g.M.Machine.Step c.args.machine.now) _ c.args.config _ _ _ _ _
    c.loop-other.invariant
    (settles_beside _ _ c.args.config _ _ _ _ c.in-Some.ensures.some.0 c.in_ok-make_call.ensures)

pub returns : goal.returns
returns g c =
    let Step = g.M.Machine.Step c.args.machine.now in
    let slots = c.args.slots.now in
    let all : c.loop-other.other ≡ length slots = search rules in
    on_ok_weaker c.make_last-2.result (λ found. goes_all _ _ _ _ _ _ c.requires.few
    c.requires.waits (settles_last Step _ c.args.config _ _ _ _ c.requires.within
    (rw all at c.loop-other.invariant) found)) c.make_last-2.ensures
