use Rattle.service_conformance.proofs.Names.{false, rules, true, ByPort, ServesDead, reply_in, service_of}
use Rattle.service_conformance.proofs.Dying.{dead_left}
use Rattle.service_conformance.proofs.Following.{one_kept}
use Rattle.service_conformance.proofs.conformance.service_check.ServiceCheck.follow_dead.Goals as goal

pub returns-then-has_ports_in : goal.returns-then-has_ports_in
returns-then-has_ports_in c =
    rw (← c.self.view_is)
    (dead_left (service_of c.self.inside) c.args.dead.now c.args.kept.now
    (reply_in c.args._reply.now)
    c.recover.new.self c.recover-2.new.self true (search rules) (search rules) (search rules))

pub invariant_of-self : goal.invariant_of-self
invariant_of-self c =
    one_kept (ServesDead c.args.self.now c.args.dead.now (ByPort c.args.kept.now))
    (reply_in c.args._reply.now) _ c.requires (returns-then-has_ports_in c)

pub returns : goal.returns
returns c =
    rw (← c.self.view_is, c.recover-3.ensures)
    (dead_left (service_of c.self.inside) c.args.dead.now c.args.kept.now
    (reply_in c.args._reply.now)
    c.recover.new.self c.recover-2.new.self false (search rules) (search rules) (search rules))

pub invariant_of-self-2 : goal.invariant_of-self-2
invariant_of-self-2 c =
    one_kept (ServesDead c.args.self.now c.args.dead.now (ByPort c.args.kept.now))
    (reply_in c.args._reply.now) _ c.requires (returns c)
