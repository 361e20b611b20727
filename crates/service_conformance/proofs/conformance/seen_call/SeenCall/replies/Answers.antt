use Rattle.service_conformance.proofs.Names.{seen_as}
use Rattle.service_conformance.proofs.Calls.{replies_found}
use Rattle.service_conformance.proofs.conformance.seen_call.SeenCall.replies.Goals as goal

pub returns : goal.returns
returns c =
    rw (← c.self.view_is)
    (replies_found (seen_as c.self.inside) c.args.state.now c.possible_replies.result
    c.possible_replies.ensures.kept c.possible_replies.ensures.rest
    c.possible_replies.ensures.replies)
