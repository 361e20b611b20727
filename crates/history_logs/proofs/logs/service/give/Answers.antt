use Rattle.history_logs.proofs.logs.service.give.Goals as goal

pub returns-in-Nodes : goal.returns-in-Nodes
returns-in-Nodes c = rw c.in-Nodes.is c.give_nodes.ensures.gives

pub returns-in-Ports : goal.returns-in-Ports
returns-in-Ports c = rw c.in-Ports.is c.give_ports.ensures.gives

pub returns-in-Node : goal.returns-in-Node
returns-in-Node c = rw c.in-Node.is c.give_node.ensures.gives

pub returns-in-Port : goal.returns-in-Port
returns-in-Port c = rw (c.in-Port.is, ← c.details.ensures) c.give_port.ensures.gives
