-- What is given of a service that was in use.
use Rattle.std.specs.Prelude.{◌++◌, ◌<◌, ◌∷◌, ◌≡◌, ◌≢◌, All, Bool, [], false, true, ℕ}
use Rattle.service_conformance.specs.Prelude.{Entry, IsRegistry, IsService, PortDetails, RegistryState, Role, Service, Side, container, role_at, role_of}
use Rattle.service_conformance.specs.Entries.{slot_entry}
use Rattle.service_conformance.specs.Sides.{ports_at, with_ports_at}

-- the registry is as a new one
pub record IsUnused {T : Type 0} (r : RegistryState T) : Type 0 where
  pub entries : r.entries ≡ []
  pub used : r.used ≡ 0
  pub locked : r.locked ≡ false

-- the registry, of which so many tickets were used, and which is locked or not
abbrev pub with_used : {T : Type 0} → RegistryState T → ℕ → Bool → RegistryState T
with_used r used locked = record r { used = used; locked = locked }

-- the registry with one more entry behind the others
abbrev pub with_last : {T : Type 0} → RegistryState T → Entry T → RegistryState T
with_last r e = record r { entries = r.entries ++ e ∷ [] }

-- the entry stands before this slot, and has another ticket
pub record IsBefore {T : Type 0} (slot ticket : ℕ) (e : Entry T) : Type 0 where
  pub below : e.slot < slot
  pub other : e.ticket ≢ ticket

-- an entry of this slot and ticket may stand behind the others
pub record MayStand {T : Type 0} (r : RegistryState T) (slot ticket : ℕ) : Type 0 where
  pub is_open : r.locked ≡ false
  pub fits : slot < r.capacity
  pub used : ticket < r.used
  pub before : All (IsBefore slot ticket) r.entries

-- so many tickets of a registry that is as a new one were used, and it is locked or not
abbrev pub UsedSo : {T : Type 0} → RegistryState T → ℕ → Bool → RegistryState T → Type 0
UsedSo r used locked new =
    IsUnused r × (new ≡ with_used r used locked) × IsRegistry new

-- the entry stands behind the others
abbrev pub StandsLast : {T : Type 0} → RegistryState T → Entry T → RegistryState T → Type 0
StandsLast r e new = (new ≡ with_last r e) × IsRegistry new

-- Yes: so it is now. No: nothing can be so, and nothing has changed.
abbrev pub Becomes : {S : Type 0} → (S → Type 0) → S → Bool → S → Type 0
Becomes Is old true new = Is new
Becomes {S} Is old false new = ((other : S) → ¬ (Is other)) × (new ≡ old)

-- the service with other nodes
abbrev pub with_nodes : Service → RegistryState ℕ → Service
with_nodes s r = record s { nodes = container r s.nodes.touches }

-- the service with other ports of one kind
abbrev pub with_ports : Side → Service → RegistryState PortDetails → Service
with_ports side s r =
    record s { ports = with_ports_at side s.ports (container r (ports_at s side).touches) }

-- A service of which no node is known had so many nodes, and is locked or not.
abbrev pub GivesNodes : Service → ℕ → Bool → Service → Type 0
GivesNodes s used locked new =
    IsUnused s.nodes.registry
    × (new ≡ with_nodes s (with_used s.nodes.registry used locked)) × IsService new

-- A service of which no port of the role is known had so many of them.
abbrev pub GivesPorts : Service → Role → ℕ → Service → Type 0
GivesPorts s role used new =
    (side : Side) × (role ≡ role_at s.pattern side) × IsUnused (ports_at s side).registry
    × (new ≡ with_ports side s (with_used (ports_at s side).registry used false))
    × IsService new

-- a node has an entry behind the others
abbrev pub GivesNode : Service → ℕ → ℕ → ℕ → Service → Type 0
GivesNode s slot ticket id new =
    (new ≡ with_nodes s (with_last s.nodes.registry (slot_entry slot ticket id))) × IsService new

-- a port stands behind the others of its role
abbrev pub GivesPort : Service → ℕ → ℕ → PortDetails → Service → Type 0
GivesPort s slot ticket details new =
    (side : Side) × (role_of details ≡ role_at s.pattern side)
    × (new ≡ with_ports side s
    (with_last (ports_at s side).registry (slot_entry slot ticket details)))
    × IsService new
