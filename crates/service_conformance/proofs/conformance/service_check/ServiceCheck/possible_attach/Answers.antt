use Rattle.service_conformance.proofs.Names.{ap, sym, ◌<◌, ◌∙◌, ◌≡◌, entries_of_node, node_of, possible_add, role_at, role_of, service_of, side_of}
use Rattle.service_conformance.proofs.Possibles.{locked, unregistered, attaches}
use Rattle.service_conformance.proofs.Taking.{has_role, positive}
use Rattle.service_conformance.proofs.conformance.service_check.ServiceCheck.possible_attach.Goals.{In-Some}
use Rattle.service_conformance.proofs.conformance.service_check.ServiceCheck.possible_attach.Goals as goal

role_is : (c : In-Some)
    → role_of c.args.details ≡ role_at c.self.inside.pattern (side_of c.in-Some.first)
role_is c = sym c.role.ensures ∙ c.in-Some.ensures.some

pub returns-then-is_locked : goal.returns-then-is_locked
returns-then-is_locked c =
    rw (← c.self.view_is)
    (locked (service_of c.self.inside) c.args.details c.self.invariant
    (has_role _ (side_of c.in-Some.first) _ (role_is (goal.at.returns-then-is_locked c).In-Some))
    (sym c.is_locked.ensures ∙ c.if-is_locked.true))

pub returns-then-count-eq0 : goal.returns-then-count-eq0
returns-then-count-eq0 c =
    rw (← c.self.view_is)
    (unregistered (service_of c.self.inside) c.args.details c.self.invariant
    (has_role _ (side_of c.in-Some.first) _ (role_is (goal.at.returns-then-count-eq0 c).In-Some))
    (sym c.is_locked.ensures ∙ c.if-is_locked.false)
    (ap (λ k. entries_of_node k c.self.inside.nodes) (sym c.node_id.ensures)
    ∙ (sym c.count.ensures ∙ c.if-count-eq0.true)))

pub returns : goal.returns
returns c =
    let s = service_of c.self.inside in
    let count : c.count.result ≡ entries_of_node (node_of c.args.details) s.nodes.registry =
    c.count.ensures ∙ ap (λ k. entries_of_node k s.nodes.registry) c.node_id.ensures in
    let some : 0 < entries_of_node (node_of c.args.details) s.nodes.registry =
    positive _ (λ e. c.if-count-eq0.false (count ∙ e)) in
    rw (← c.self.view_is)
    (rw (c.possible_add.ensures ∙ ap (possible_add c.refusal-why.result) c.of_ports.ensures)
    (attaches s c.args.details (side_of c.in-Some.first) (role_is (goal.at.returns c).In-Some)
    (sym c.is_locked.ensures ∙ c.if-is_locked.false, some) c.refusal-why.result
    c.self.invariant
    (rw (c.ports.ensures.ports, ← c.self.view_is) at c.refusal-why.ensures)))
