use Rattle.std.proofs.Common.{Ok, refl, sym}
use Rattle.iox2_container.proofs.Mapped.{Adds-as}
use Rattle.iox2_dynamic.proofs.Rooms.{attaches}
use Rattle.iox2_dynamic.proofs.Names.{First, Admits, node_of}
use Rattle.iox2_dynamic.proofs.dynamic_config.pattern.PortRegistries.attach_first.Goals as goal

pub returns-clause-attached : goal.returns-clause-attached
returns-clause-attached g c =
    let details = g.A.PortKind.details in
    let admits : Admits c.args.nodes.now (node_of (details c.args.port)) (Ok tt) =
    rw (g.met.A.PortKind.same_node c.args.port, sym c.node_id.ensures) c.in_ok-admit.ensures in
    rw (c.or.ensures, sym c.self.view_is) (attaches _ _ _ _ _ _ admits c.add.result (record {
      side = First;
      role_is = g.met.A.PortKind.same_role c.args.port;
      step = Adds-as details _ c.args.port c.add.result _ c.add.ensures.adds;
      others = refl;
    }))
