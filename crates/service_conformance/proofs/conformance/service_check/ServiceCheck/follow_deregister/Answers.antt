use Rattle.service_conformance.proofs.Names.{rules, ServesDeregister, reply_in, service_of}
use Rattle.service_conformance.proofs.Following.{deregister_goes, one_kept}
use Rattle.service_conformance.proofs.conformance.service_check.ServiceCheck.follow_deregister.Goals as goal

pub returns : goal.returns
returns c =
    rw (← c.self.view_is, c.in-Some.is)
    (deregister_goes (service_of c.self.inside) c.in-Some.handle (reply_in c.args.reply.now)
    c.remove.new.self (search rules) c.remove.ensures)

pub invariant_of-self : goal.invariant_of-self
invariant_of-self c =
    one_kept (ServesDeregister c.args.self.now c.args.handle) (reply_in c.args.reply.now) _
    c.requires
    (returns c)
