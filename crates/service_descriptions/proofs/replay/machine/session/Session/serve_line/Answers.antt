use Rattle.std.proofs.Common.{◌≡◌, None, rules, subst}
use Rattle.service_descriptions.proofs.Names.{IsService, IsSound, session_of, handles_in, LineStep, command_of}
use Rattle.service_descriptions.proofs.Serving.{ServesLine, after, served_line, sound_state}
use Rattle.service_descriptions.proofs.replay.machine.session.Session.serve_line.Goals as goal
use Rattle.service_descriptions.proofs.replay.machine.session.Session.serve_line.Goals.{After-push_reserved, in-Register, in-Deregister, in-Nodes, in-Add, in-Release, in-List, in-Count, in-Dead}

-- what answered the command
answered : (c : After-push_reserved)
    → ServesLine c.self.inside.service None
    (handles_in c.self.inside.number c.self.inside.earlier.items) (command_of c.args.command.now)
    c.match-command.answer c.match-command.self-inside.service
    × IsService c.match-command.self-inside.service
    × (c.match-command.self-inside.number ≡ c.self.inside.number)
    × (c.match-command.self-inside.earlier.items ≡ c.self.inside.earlier.items)
answered c = elim c.match-command.branch [
  | in-Register w ↦ search rules
  | in-Deregister w ↦ search rules
  | in-Nodes w ↦ search rules
  | in-Add w ↦ search rules
  | in-Release w ↦ search rules
  | in-List w ↦ search rules
  | in-Count w ↦ search rules
  | in-Dead w ↦ search rules
]

step : (c : After-push_reserved)
    → IsSound (after c.self.inside c.match-command.self-inside.service c.push_reserved.new.self)
    × LineStep (session_of c.self.inside) (command_of c.args.command.now) c.match-command.answer
    (session_of (after c.self.inside c.match-command.self-inside.service c.push_reserved.new.self))
step c =
    let reported = answered c in
    served_line c.self.inside c.match-command.self-inside.service c.push_reserved.new.self
    c.of.result (command_of c.args.command.now) c.match-command.answer c.self.invariant reported.1
    reported.0 c.of.ensures (rw reported.3 at c.push_reserved.ensures.items)

pub invariant_of-self-2 : goal.invariant_of-self-2
invariant_of-self-2 c = rw (answered c).2 (step c).0

pub returns-clause-ok : goal.returns-clause-ok
returns-clause-ok c =
    let new =
    after c.self.inside c.match-command.self-inside.service c.push_reserved.new.self in
    rw (answered c).2
    (subst (λ v. LineStep v (command_of c.args.command.now) c.match-command.answer
    (session_of new)) c.self.view_is (step c).1)

pub returns-clause-state : goal.returns-clause-state
returns-clause-state c = rw (answered c).2 (sound_state _ (step c).0)
