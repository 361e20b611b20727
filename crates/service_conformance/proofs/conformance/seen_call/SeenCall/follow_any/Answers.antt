use Rattle.service_conformance.proofs.Names.{[], ◌∷◌, CallStep, arith}
use Rattle.service_conformance.proofs.Calls.{any_one}
use Rattle.histories.proofs.Lists.{enough}
use Rattle.service_conformance.proofs.conformance.seen_call.SeenCall.follow_any.Goals as goal

pub returns-in_ok-state_after-in-One : goal.returns-in_ok-state_after-in-One
returns-in_ok-state_after-in-One c =
    let possible = c.in_ok-reply.ensures in
    enough (CallStep c.args.self.now c.args.state.now)
    (c.in_ok-state_after-in-One.field-0 ∷ []) (omega arith)
    (any_one c.args.self.now c.args.state.now possible.kept possible.rest
    c.requires c.in-One.reply c.in_ok-state_after-in-One.field-0
    (rw c.in-One.is at possible.possible) c.in_ok-state_after-in-One.ensures)
