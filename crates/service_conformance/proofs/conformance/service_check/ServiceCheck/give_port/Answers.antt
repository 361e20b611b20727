use Rattle.service_conformance.proofs.Names.{refl, rules, sym, ◌<◌, ◌∙◌, ◌≡◌, First, Second, entries_of_node, node_of, role_at, role_of, service_of, side_of}
use Rattle.service_conformance.proofs.Given.{gives_port, no_node}
use Rattle.service_conformance.proofs.conformance.service_check.ServiceCheck.give_port.Goals.{In-Some}
use Rattle.service_conformance.proofs.conformance.service_check.ServiceCheck.give_port.Goals as goal

pub returns-then-not-has_node-clause-gives : goal.returns-then-not-has_node-clause-gives
returns-then-not-has_node-clause-gives c =
    rw (← c.self.view_is) (
      no_node (service_of c.self.inside) c.self.invariant c.args.slot c.args.ticket
          c.args.details
          (λ h.
          let t = c.has_node.ensures.no (rw (← c.self.view_is, c.node_id.ensures) h) in
          let f = c.if-not-has_node.true in
          absurd (cc)),
      refl,
    )

role_is : (c : In-Some)
    → role_of c.args.details ≡ role_at c.self.inside.pattern (side_of c.in-Some.first)
role_is c = sym c.role.ensures ∙ c.in-Some.ensures.some

has_node : (c : In-Some) → 0 < entries_of_node (node_of c.args.details) c.self.inside.nodes
has_node c =
    rw (← c.self.view_is, c.node_id.ensures) at (c.has_node.ensures.yes (search rules))

pub invariant_of-self : goal.invariant_of-self
invariant_of-self c =
    let p = (goal.at.invariant_of-self c).In-Some in
    (gives_port (service_of c.self.inside) c.self.invariant First c.args.slot c.args.ticket
    c.args.details c.give_entry.result c.give_entry.new.self
    (rw c.if-first.true at (role_is p)) (has_node p)
    c.give_entry.ensures.gives
    c.give_entry.ensures.err).1

pub returns-then-first-clause-gives : goal.returns-then-first-clause-gives
returns-then-first-clause-gives c =
    let p = (goal.at.returns-then-first-clause-gives c).In-Some in
    rw (← c.self.view_is)
    (gives_port (service_of c.self.inside) c.self.invariant First c.args.slot c.args.ticket
    c.args.details c.give_entry.result c.give_entry.new.self
    (rw c.if-first.true at (role_is p)) (has_node p)
    c.give_entry.ensures.gives
    c.give_entry.ensures.err).0

pub returns-then-first-clause-kept : goal.returns-then-first-clause-kept
returns-then-first-clause-kept c = invariant_of-self c

pub invariant_of-self-2 : goal.invariant_of-self-2
invariant_of-self-2 c =
    let p = (goal.at.invariant_of-self-2 c).In-Some in
    (gives_port (service_of c.self.inside) c.self.invariant Second c.args.slot c.args.ticket
    c.args.details c.give_entry-2.result c.give_entry-2.new.self
    (rw c.if-first.false at (role_is p)) (has_node p)
    c.give_entry-2.ensures.gives
    c.give_entry-2.ensures.err).1

pub returns-clause-gives : goal.returns-clause-gives
returns-clause-gives c =
    let p = (goal.at.returns-clause-gives c).In-Some in
    rw (← c.self.view_is)
    (gives_port (service_of c.self.inside) c.self.invariant Second c.args.slot c.args.ticket
    c.args.details c.give_entry-2.result c.give_entry-2.new.self
    (rw c.if-first.false at (role_is p)) (has_node p)
    c.give_entry-2.ensures.gives
    c.give_entry-2.ensures.err).0

pub returns-clause-kept : goal.returns-clause-kept
returns-clause-kept c = invariant_of-self-2 c
