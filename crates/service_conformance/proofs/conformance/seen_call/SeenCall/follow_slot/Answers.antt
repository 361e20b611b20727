use Rattle.std.proofs.Common.{refl}
use Rattle.service_descriptions.specs.declared.replay.machine.reply.Reply.TheVariants as reply
use Rattle.service_conformance.proofs.Calls.{slot_given, slot_taken}
use Rattle.service_conformance.proofs.conformance.seen_call.SeenCall.follow_slot.Goals as goal

pub returns-in_default : goal.returns-in_default
returns-in_default c all =
    slot_taken c.args.self.now c.args.state.now c.args.part c.args.slot c.args.found.now.items
    c.in_default.ensures.none all

pub returns : goal.returns
returns c all =
    let h = c.in-Some.handle in
    let given = c.in-Some.ensures.some in
    rw c.in_ok-push.ensures.items
    (slot_given c.args.self.now c.args.state.now c.args.part c.args.slot c.args.found.now.items h
    c.in_ok-next.next given.0 given.1
    (c.requires.all.can (reply.Handle h) (h, refl, given.1)) c.in_ok-next.ensures all)
