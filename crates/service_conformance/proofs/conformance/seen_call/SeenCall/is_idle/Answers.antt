use Rattle.service_conformance.proofs.Names.{rules, true, ◌≡◌, changes_nothing, reply_in}
use Rattle.service_conformance.proofs.Calls.{idle}
use Rattle.service_conformance.proofs.conformance.seen_call.SeenCall.is_idle.Goals as goal

pub returns : goal.returns
returns c t =
    let nothing : changes_nothing c.in-Some.seen.now ≡ true = search rules in
    let possible = c.in_ok-possible.ensures in
    idle c.args.self.now c.in-Some.seen.now c.in-Some.ensures.some nothing c.args.state.now
    c.in_ok-possible.possible (reply_in c.in-Some-reply_seen._reply) possible.kept possible.rest
    possible.possible c.in-Some-reply_seen.ensures
