use Rattle.service_conformance.proofs.Names.{ap, length, nat_eq, sym, ◌∙◌, ◌≡◌}
use Rattle.service_conformance.proofs.Possibles.{attached, leaves, unknown}
use Rattle.service_conformance.proofs.conformance.service_check.ServiceCheck.possible_deregister.Goals as goal

pub returns-in_default-get : goal.returns-in_default-get
returns-in_default-get c =
    rw c.in-Some.is
    (unknown c.args.self.now c.in-Some.handle c.nodes-nodes.ensures.kept
    (rw c.nodes-nodes.ensures.nodes at c.in_default-get.ensures.none))

pub returns-then-is_last_of_ports : goal.returns-then-is_last_of_ports
returns-then-is_last_of_ports c =
    rw c.in-Some.is
    (attached c.args.self.now c.in-Some.handle c.nodes-nodes.ensures.kept c.in-Some-get.id
    (rw c.nodes-nodes.ensures.nodes at c.in-Some-get.ensures.some)
    (sym c.is_last_of_ports.ensures ∙ c.if-is_last_of_ports.true))

pub returns : goal.returns
returns c =
    let locks : nat_eq c.len-locks.result 1
    ≡ nat_eq (length c.args.self.now.nodes.registry.entries) 1 =
    ap (λ n. nat_eq n 1)
    (c.len-locks.ensures ∙ ap (λ r. length r.entries) c.nodes-nodes.ensures.nodes) in
    rw (c.reply_of_owners.ensures, c.in-Some.is)
    (leaves c.args.self.now c.in-Some.handle c.nodes-nodes.ensures.kept c.in-Some-get.id
    (rw c.nodes-nodes.ensures.nodes at c.in-Some-get.ensures.some) (nat_eq c.len-locks.result 1)
    locks (sym c.is_last_of_ports.ensures ∙ c.if-is_last_of_ports.false))
