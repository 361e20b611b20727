-- What stays of a service when dead nodes are removed.
use Rattle.std.specs.Prelude.{◌≡◌, ℕ, List, filter, length}
use Rattle.iox2_container.specs.Calls.{is_outside}
use Rattle.iox2_container.specs.State.{Entry, RegistryState}
use Rattle.iox2_container.specs.Steps.{lock_after}
use Rattle.iox2_container.specs.declared.container.registry.ReleaseMode.TheVariants.{LockIfLastIndex}
use Rattle.iox2_dynamic.specs.declared.dynamic_config.port_details.PortDetails.{PortDetails}
use Rattle.iox2_dynamic.specs.Details.{node_of}
use Rattle.iox2_dynamic.specs.Service.{Service}

-- the entries whose node is not one of the dead
abbrev pub others : {T : Type 0} → (T → ℕ) → List ℕ → List (Entry T) → List (Entry T)
others node dead entries = filter (λ e. is_outside node dead e.details) entries

-- the registry of ports, without those of the dead
abbrev pub ports_without : List ℕ → RegistryState PortDetails → RegistryState PortDetails
ports_without dead ports = record ports { entries = others node_of dead ports.entries }

-- the registry of nodes, without the dead; it is locked where it was, or where the last node went
abbrev pub nodes_without : List ℕ → RegistryState ℕ → RegistryState ℕ
nodes_without dead nodes =
    let left = others (λ id. id) dead nodes.entries in
    record nodes {
      entries = left;
      locked = lock_after LockIfLastIndex (length nodes.entries) (length left) nodes.locked;
    }

-- no port and no entry of a dead node is left, each other entry stays as it was, and the removal of
-- the last node locks
pub record OnlyOthersStay (dead : List ℕ) (old new : Service) : Type 0 where
  pub pattern : new.pattern ≡ old.pattern
  pub nodes : new.nodes.registry ≡ nodes_without dead old.nodes.registry
  pub first_ports : new.ports.first.registry ≡ ports_without dead old.ports.first.registry
  pub second_ports : new.ports.second.registry ≡ ports_without dead old.ports.second.registry
