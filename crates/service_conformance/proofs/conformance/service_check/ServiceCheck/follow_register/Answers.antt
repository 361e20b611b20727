use Rattle.service_conformance.proofs.Names.{CanServe, ServesRegister, service_of}
use Rattle.service_descriptions.specs.declared.replay.machine.reply.Reply.TheVariants as reply
use Rattle.service_conformance.proofs.Following.{register_enters, register_may}
use Rattle.service_conformance.proofs.conformance.service_check.ServiceCheck.follow_register.Goals.{In-Some}
use Rattle.service_conformance.proofs.conformance.service_check.ServiceCheck.follow_register.Goals as goal

can : (c : In-Some) → CanServe (ServesRegister (service_of c.self.inside) c.args.id)
    (reply.Handle c.in-Some.handle)
can c = rw (← c.self.view_is, c.in-Some.ensures.some) at c.requires

pub enter-requires-clause-may : goal.enter-requires-clause-may
enter-requires-clause-may c =
    (register_may _ _ _ (can (goal.at.enter-requires-clause-may c).In-Some)).1

pub invariant_of-self-2 : goal.invariant_of-self-2
invariant_of-self-2 c =
    (register_enters _ _ _ (can (goal.at.invariant_of-self-2 c).In-Some) _
    c.in_ok-enter.ensures.ok c.enter.ensures.kept).1

pub returns-clause-ok : goal.returns-clause-ok
returns-clause-ok c =
    rw (← c.self.view_is, c.in-Some.ensures.some)
    (register_enters _ _ _ (can (goal.at.returns-clause-ok c).In-Some) _
    c.in_ok-enter.ensures.ok c.enter.ensures.kept).0
