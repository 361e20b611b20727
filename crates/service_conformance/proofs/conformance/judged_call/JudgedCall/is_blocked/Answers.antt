use Rattle.service_conformance.proofs.Names.{IfOk-weaker, refl, subst, sym, ◌≡◌, CallLeaves, CallStep, JudgedStep, call}
use Rattle.service_conformance.proofs.conformance.judged_call.JudgedCall.is_blocked.Goals as goal

pub returns-in-Call : goal.returns-in-Call
returns-in-Call c =
    let w = c.args.state.now in
    let same : call c.in-Call.made ≡ c.args.self.now =
    rw (← c.self.view_is, c.in-Call.is) refl in
    IfOk-weaker c.is_blocked.result _ _ (λ blocked is t number new step.
    let leaves : CallLeaves c.in-Call.made w new =
    subst (λ j. JudgedStep number j w new) (sym same) step in
    is t new.service (subst (λ s. CallStep c.in-Call.made s new.service)
    (sym c.service.ensures.service) leaves.1)) c.is_blocked.ensures
