use Rattle.service_conformance.proofs.Names.{[], sym, true, ◌∙◌, ◌∷◌, ◌≡◌, is_query}
use Rattle.service_conformance.proofs.Calls.{open_query}
use Rattle.service_conformance.proofs.conformance.seen_call.SeenCall.is_open_query.Goals as goal

pub returns : goal.returns
returns c t none =
    let call = c.args.self.now in
    let query : is_query call.command ≡ true =
    rw (← c.self.view_is) (sym c.is_query.ensures ∙ t) in
    let answers = c.answers_queries.ensures in
    open_query call query c.args.state.now answers.kept answers.rest
    (answers.asked call.command (call.handle ∷ []) query) none
