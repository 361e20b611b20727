use Rattle.service_conformance.proofs.Names.{sym, ◌∙◌, ◌≡◌, CanServe, First, Second, ServesAdd, role_at, role_of, service_of, side_of}
use Rattle.service_descriptions.specs.declared.replay.machine.reply.Reply.TheVariants as reply
use Rattle.service_conformance.proofs.Following.{attach_enters, attach_may}
use Rattle.service_conformance.proofs.conformance.service_check.ServiceCheck.follow_attach.Goals.{In-Some-side}
use Rattle.service_conformance.proofs.conformance.service_check.ServiceCheck.follow_attach.Goals as goal

role_is : (c : In-Some-side)
    → role_of c.args.details ≡ role_at c.self.inside.pattern (side_of c.in-Some-side.first)
role_is c = sym c.role.ensures ∙ c.in-Some-side.ensures.some

can : (c : In-Some-side) → CanServe (ServesAdd (service_of c.self.inside) c.args.details)
    (reply.Handle c.in-Some.handle)
can c = rw (← c.self.view_is, c.in-Some.ensures.some) at c.requires

pub enter-requires-clause-may : goal.enter-requires-clause-may
enter-requires-clause-may c =
    let p = (goal.at.enter-requires-clause-may c).In-Some-side in
    (attach_may _ _ First _ (rw c.if-first.true at (role_is p)) (can p)).1

pub invariant_of-self-then-first : goal.invariant_of-self-then-first
invariant_of-self-then-first c =
    let p = (goal.at.invariant_of-self-then-first c).In-Some-side in
    (attach_enters _ _ First _ (rw c.if-first.true at (role_is p)) (can p) _
    c.in_ok-enter.ensures.ok c.enter.ensures.kept).1

pub returns-then-first-clause-ok : goal.returns-then-first-clause-ok
returns-then-first-clause-ok c =
    let p = (goal.at.returns-then-first-clause-ok c).In-Some-side in
    rw (← c.self.view_is, c.in-Some.ensures.some)
    (attach_enters _ _ First _ (rw c.if-first.true at (role_is p)) (can p) _
    c.in_ok-enter.ensures.ok c.enter.ensures.kept).0

pub enter-requires-2-clause-may : goal.enter-requires-2-clause-may
enter-requires-2-clause-may c =
    let p = (goal.at.enter-requires-2-clause-may c).In-Some-side in
    (attach_may _ _ Second _ (rw c.if-first.false at (role_is p)) (can p)).1

pub invariant_of-self-2 : goal.invariant_of-self-2
invariant_of-self-2 c =
    let p = (goal.at.invariant_of-self-2 c).In-Some-side in
    (attach_enters _ _ Second _ (rw c.if-first.false at (role_is p)) (can p) _
    c.in_ok-enter-2.ensures.ok c.enter-2.ensures.kept).1

pub returns-clause-ok : goal.returns-clause-ok
returns-clause-ok c =
    let p = (goal.at.returns-clause-ok c).In-Some-side in
    rw (← c.self.view_is, c.in-Some.ensures.some)
    (attach_enters _ _ Second _ (rw c.if-first.false at (role_is p)) (can p) _
    c.in_ok-enter-2.ensures.ok c.enter-2.ensures.kept).0
