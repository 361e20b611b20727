-- What a refused call leaves.
use Rattle.std.specs.Prelude.{◌≡◌}
use Rattle.iox2_dynamic.specs.Service.{Service}

-- the same nodes and ports are attached: none came and none went, and nothing was locked
pub record SameAttached (old new : Service) : Type 0 where
  pub pattern : new.pattern ≡ old.pattern
  pub nodes : new.nodes.registry ≡ old.nodes.registry
  pub first_ports : new.ports.first.registry ≡ old.ports.first.registry
  pub second_ports : new.ports.second.registry ≡ old.ports.second.registry
