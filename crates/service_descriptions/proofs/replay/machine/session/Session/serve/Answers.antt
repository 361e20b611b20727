use Rattle.std.proofs.Common.{◌≡◌, rules, subst}
use Rattle.service_descriptions.proofs.Names.{IsService, IsSound, described, session_of, handles_in, Serves, ServiceStep}
use Rattle.service_descriptions.proofs.Serving.{after, served, sound_state}
use Rattle.service_descriptions.proofs.replay.machine.session.Session.serve.Goals as goal
use Rattle.service_descriptions.proofs.replay.machine.session.Session.serve.Goals.{After-push_reserved, in-Register, in-Deregister, in-Nodes+in_ok-nodes-in-Nodes, in-Add, in-Release, in-List+in_ok-reply-in-List, in-Count, in-Dead, in-Verify, in-Layout, in-Places, in-Compatible}

-- what answered the command
answered : (c : After-push_reserved)
    → Serves c.self.inside.service c.args.about.now
    (handles_in c.self.inside.number c.self.inside.earlier.items) c.args.command.now
    c.match-command.reply c.match-command.self-inside.service
    × IsService c.match-command.self-inside.service
    × (c.match-command.self-inside.number ≡ c.self.inside.number)
    × (c.match-command.self-inside.earlier.items ≡ c.self.inside.earlier.items)
answered c = elim c.match-command.branch [
  | in-Register w ↦ search rules
  | in-Deregister w ↦ search rules
  | in-Nodes+in_ok-nodes-in-Nodes w ↦ search rules
  | in-Add w ↦ search rules
  | in-Release w ↦ search rules
  | in-List+in_ok-reply-in-List w ↦ search rules
  | in-Count w ↦ search rules
  | in-Dead w ↦ search rules
  | in-Verify w ↦ search rules
  | in-Layout w ↦ search rules
  | in-Places w ↦ search rules
  | in-Compatible w ↦ search rules
]

step : (c : After-push_reserved)
    → IsSound (after c.self.inside c.match-command.self-inside.service c.push_reserved.new.self)
    × ServiceStep (described (session_of c.self.inside) c.args.about.now) c.args.command.now
    c.match-command.reply (described (session_of (after c.self.inside
    c.match-command.self-inside.service c.push_reserved.new.self)) c.args.about.now)
step c =
    let reported = answered c in
    served c.args.about.now c.self.inside c.match-command.self-inside.service
    c.push_reserved.new.self c.of_reply.result c.args.command.now c.match-command.reply
    c.self.invariant reported.1 reported.0 c.of_reply.ensures (rw reported.3 at
    c.push_reserved.ensures.items)

pub invariant_of-self-2 : goal.invariant_of-self-2
invariant_of-self-2 c = rw (answered c).2 (step c).0

pub returns-clause-ok : goal.returns-clause-ok
returns-clause-ok c =
    let new =
    after c.self.inside c.match-command.self-inside.service c.push_reserved.new.self in
    rw (answered c).2
    (subst (λ v. ServiceStep (described v c.args.about.now) c.args.command.now
    c.match-command.reply (described (session_of new) c.args.about.now)) c.self.view_is (step c).1)

pub returns-clause-state : goal.returns-clause-state
returns-clause-state c = rw (answered c).2 (sound_state _ (step c).0)
