use Rattle.service_conformance.proofs.Names.{IfOk-weaker, refl, subst, ◌≡◌, IsIdleCall, IsIdleJudged, JudgedStep, call}
use Rattle.service_conformance.proofs.Judged.{idle_leaves}
use Rattle.service_conformance.proofs.conformance.judged_call.JudgedCall.is_idle.Goals as goal

pub returns-in-Call : goal.returns-in-Call
returns-in-Call c =
    let same : call c.in-Call.made ≡ c.args.self.now =
    rw (← c.self.view_is, c.in-Call.is) refl in
    let w = c.args.state.now in
    IfOk-weaker c.is_idle.result _ _ (λ idle is t.
    subst (λ j. JudgedStep c.args.number j w w × IsIdleJudged c.args.number j) same
    (idle_leaves c.in-Call.made w c.service.ensures.kept
    (subst (λ s. IsIdleCall c.in-Call.made s) c.service.ensures.service (is t)))) c.is_idle.ensures
