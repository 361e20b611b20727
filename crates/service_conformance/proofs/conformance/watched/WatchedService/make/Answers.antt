use Rattle.service_conformance.proofs.Names.{[], subst, sym, ◌∙◌, ◌≡◌, CallLeaves, IsMade, Watched, watched_of, IfOk}
use Rattle.service_conformance.proofs.Judged.{made_leaves, none_of}
use Rattle.service_conformance.proofs.conformance.watched.WatchedService.make.Goals as goal

pub returns : goal.returns
returns c =
    let w = watched_of c.self.inside in
    let none : c.self.inside.looks.items ≡ [] =
    sym c.as_slice.ensures.value
    ∙ none_of c.as_slice.result.now c.is_empty.result c.is_empty.ensures c.if-not-is_empty.false
    in
    let new : Watched = record { service = c.make.new.state; looks = c.self.inside.looks.items } in
    subst (λ (v : Watched). IfOk c.make.result (IsMade (CallLeaves c.args.made.now v) v new))
    c.self.view_is
    (made_leaves c.args.made.now w c.make.result c.make.new.state c.self.invariant none
    (rw c.deref_mut.ensures.value at c.make.ensures))
