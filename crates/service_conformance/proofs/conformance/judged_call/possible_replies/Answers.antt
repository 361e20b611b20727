use Rattle.service_conformance.proofs.Names.{refl, subst, ◌≡◌, AreJudgedReplies, stops}
use Rattle.service_conformance.specs.declared.conformance.possible.PossibleReplies.TheVariants as replies
use Rattle.service_conformance.proofs.conformance.judged_call.possible_replies.Goals as goal

pub returns-in_ok-lacking-in-Stops : goal.returns-in_ok-lacking-in-Stops
returns-in_ok-lacking-in-Stops c =
    let lists = c.in_ok-lacking-in-Stops.field-0 in
    let same : stops c.in-Stops.start c.in-Stops.field-1 ≡ c.args.judged.now =
    rw (← c.judged.view_is, c.in-Stops.is) refl in
    subst (λ j. AreJudgedReplies c.args.state.now j (replies.List lists)) same
    (lists, refl, c.in_ok-lacking-in-Stops.ensures)
