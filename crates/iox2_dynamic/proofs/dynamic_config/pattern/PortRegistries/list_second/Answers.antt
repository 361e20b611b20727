use Rattle.std.proofs.Common.{sym}
use Rattle.iox2_dynamic.proofs.dynamic_config.pattern.PortRegistries.list_second.Goals as goal

pub for_each-requires : goal.for_each-requires
for_each-requires g c = rw (sym c.self.view_is) at c.requires

pub returns : goal.returns
returns g c = rw (sym c.self.view_is) c.for_each.ensures.visit
