use Rattle.std.proofs.Common.{arith}
use Rattle.service_conformance.proofs.Calls.{all_given, many_given, none_given}
use Rattle.service_conformance.proofs.conformance.seen_call.SeenCall.follow_add.Goals as goal

pub loop-slot-init : goal.loop-slot-init
loop-slot-init c =
    none_given c.args.self.now c.args.state.now c.args.part _ c.new-found.ensures.items

pub returns-then-len-gt-MAX_CONFIGS : goal.returns-then-len-gt-MAX_CONFIGS
returns-then-len-gt-MAX_CONFIGS c =
    many_given c.args.self.now c.args.state.now c.args.part
    c.capacity-slot-end.ensures.kept c.capacity-slot-end.ensures.rest c.requires.words
    c.loop-slot.slot c.loop-slot.found.items c.loop-slot.invariant
    (omega (arith, c.if-len-gt-MAX_CONFIGS.true, c.len.ensures))

pub returns : goal.returns
returns c =
    all_given c.args.self.now c.args.state.now c.args.part
    c.capacity-slot-end.ensures.kept c.capacity-slot-end.ensures.rest c.requires.words
    c.requires.all c.loop-slot.slot
    (λ h may. omega (arith, c.capacity-slot-end.ensures.below h may, c.loop-slot-test.false))
    c.loop-slot.found.items c.loop-slot.invariant
