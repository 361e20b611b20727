use Rattle.iox2_container.proofs.Prelude.{map, shown}
use Rattle.iox2_container.proofs.Keeping.{names}
use Rattle.iox2_container.proofs.container.slot_map.SlotMapRegistry.get.Goals as goal

pub returns-clause-details : goal.returns-clause-details
returns-clause-details g c =
    let parts = c.may_have.ensures.0 c.if-not-may_have.false in
    let map_is = c.self-inside.inside.0.0 in
    rw (← c.self.view_is, ← c.self-inside.view_is)
    (names map_is.header (map shown map_is.slots.cells) c.args.handle
    c.find.result parts.0 parts.1 c.find.ensures.found)
