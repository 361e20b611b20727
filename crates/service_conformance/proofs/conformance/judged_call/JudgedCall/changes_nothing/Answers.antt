use Rattle.service_conformance.proofs.Names.{refl, subst, sym, ◌≡◌, JudgedStep, call}
use Rattle.service_conformance.proofs.Judged.{changes_none}
use Rattle.service_conformance.proofs.conformance.judged_call.JudgedCall.changes_nothing.Goals as goal

pub returns-in-Call : goal.returns-in-Call
returns-in-Call c t number old new step =
    let same : call c.in-Call.made ≡ c.args.self.now =
    rw (← c.self.view_is, c.in-Call.is) refl in
    changes_none c.in-Call.made (c.changes_nothing.ensures t) old new
    (subst (λ j. JudgedStep number j old new) (sym same) step)
