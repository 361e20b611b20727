use Rattle.service_conformance.proofs.Names.{rules, sym, ◌∙◌, ◌≡◌, First, Second, ServesRelease, reply_in, role_at, service_of, side_of}
use Rattle.service_conformance.proofs.Following.{one_kept, release_goes}
use Rattle.service_conformance.proofs.conformance.service_check.ServiceCheck.follow_release.Goals.{In-Some-side}
use Rattle.service_conformance.proofs.conformance.service_check.ServiceCheck.follow_release.Goals as goal

role_is : (c : In-Some-side)
    → c.in-Some.handle.role ≡ role_at c.self.inside.pattern (side_of c.in-Some-side.first)
role_is c = sym c.role.ensures ∙ c.in-Some-side.ensures.some

pub returns-then-first : goal.returns-then-first
returns-then-first c =
    let p = (goal.at.returns-then-first c).In-Some-side in
    rw (← c.self.view_is, c.in-Some.is)
    (release_goes (service_of c.self.inside) c.in-Some.handle First
    (rw c.if-first.true at (role_is p)) c.remove.new.self c.remove.ensures
    (reply_in c.args.reply.now)
    (search rules))

pub invariant_of-self : goal.invariant_of-self
invariant_of-self c =
    one_kept (ServesRelease c.args.self.now c.args.handle) (reply_in c.args.reply.now) _ c.requires
    (returns-then-first c)

pub returns : goal.returns
returns c =
    let p = (goal.at.returns c).In-Some-side in
    rw (← c.self.view_is, c.in-Some.is)
    (release_goes (service_of c.self.inside) c.in-Some.handle Second
    (rw c.if-first.false at (role_is p)) c.remove-2.new.self c.remove-2.ensures
    (reply_in c.args.reply.now) (search rules))

pub invariant_of-self-2 : goal.invariant_of-self-2
invariant_of-self-2 c =
    one_kept (ServesRelease c.args.self.now c.args.handle) (reply_in c.args.reply.now) _ c.requires
    (returns c)
