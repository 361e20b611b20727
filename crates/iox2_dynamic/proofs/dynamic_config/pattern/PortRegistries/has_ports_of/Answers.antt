use Rattle.std.proofs.Common.{arith, sym}
use Rattle.iox2_container.proofs.Mapped.{entries_of-as}
use Rattle.iox2_dynamic.proofs.Names.{node_of}
use Rattle.iox2_dynamic.proofs.dynamic_config.pattern.PortRegistries.has_ports_of.Goals as goal

pub returns-then-has_entry_of : goal.returns-then-has_entry_of
returns-then-has_entry_of g c =
    let first =
    entries_of-as g.A.PortKind.details g.A.Attached.node node_of g.met.A.PortKind.same_node
    c.args.node.now c.self.inside.first.registry in
    rw (sym c.self.view_is)
    (grind (arith, first, c.has_entry_of.ensures.has, c.if-has_entry_of.true))

pub returns : goal.returns
returns g c =
    let first =
    entries_of-as g.A.PortKind.details g.A.Attached.node node_of g.met.A.PortKind.same_node
    c.args.node.now c.self.inside.first.registry in
    let second =
    entries_of-as g.B.PortKind.details g.B.Attached.node node_of g.met.B.PortKind.same_node
    c.args.node.now c.self.inside.second.registry in
    rw (sym c.self.view_is)
    (grind (
      arith,
      first,
      second,
      c.has_entry_of.ensures.has,
      c.has_entry_of-2.ensures.has,
      c.if-has_entry_of.false,
    ))
