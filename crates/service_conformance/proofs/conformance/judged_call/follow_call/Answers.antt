use Rattle.service_conformance.proofs.Names.{List, [], ap, map, refl, ◌∙◌, ◌∷◌, Look, Service, Watched, watched}
use Rattle.service_conformance.proofs.Judged.{follow_leaves}
use Rattle.service_conformance.proofs.conformance.judged_call.follow_call.Goals as goal

pub returns-in-Nothing : goal.returns-in-Nothing
returns-in-Nothing c =
    follow_leaves c.args.made.now c.args.state.now c.service.ensures.kept c.service.result.now
    c.service.ensures.service [] (rw c.in-Nothing.is at c.in_ok-follow.ensures) [] refl

pub returns-in_ok-next-in-One : goal.returns-in_ok-next-in-One
returns-in_ok-next-in-One c =
    let one = c.in-One.service in
    follow_leaves c.args.made.now c.args.state.now c.service.ensures.kept c.service.result.now
    c.service.ensures.service (one ∷ []) (rw c.in-One.is at c.in_ok-follow.ensures) _
    (ap (λ (w : Watched). w ∷ []) (c.in_ok-next-in-One.ensures
    ∙ ap (λ (l : List Look). watched one l) c.looks.ensures.looks))

pub returns-in_ok-watched_all-in-All : goal.returns-in_ok-watched_all-in-All
returns-in_ok-watched_all-in-All c =
    let w = c.args.state.now in
    follow_leaves c.args.made.now w c.service.ensures.kept c.service.result.now
    c.service.ensures.service c.in-All.services.items
    (rw c.in-All.is at c.in_ok-follow.ensures) _
    (c.in_ok-watched_all-in-All.ensures
    ∙ ap (λ (l : List Service). map (λ s. watched s w.looks) l) c.deref.ensures.value)
