use Rattle.service_conformance.proofs.Names.{[], ◌∷◌, CallStep, arith, reply_in, seen_text}
use Rattle.service_conformance.proofs.Calls.{seen_one}
use Rattle.histories.proofs.Lists.{enough}
use Rattle.service_conformance.proofs.conformance.seen_call.SeenCall.follow.Goals as goal

pub returns : goal.returns
returns c =
    let possible = c.in_ok-possible.ensures in
    enough (CallStep c.args.self.now c.args.state.now) (c.in_ok-state_after.field-0 ∷ [])
    (omega arith) (seen_one c.args.self.now c.args.state.now possible.kept possible.rest
    c.in_ok-possible.possible (seen_text c.in-Some.seen.now) c.in-Some.ensures.some
    possible.possible (reply_in c.in-Some-reply_seen.reply) c.in_ok-state_after.field-0
    c.in-Some-reply_seen.ensures c.in_ok-state_after.ensures)
