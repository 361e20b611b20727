-- What a registry and a container hold, and the same with other details.
use Rattle.std.specs.Prelude.{ℕ, ◌≡◌, ◌≢◌, ◌<◌, ◌≤◌, Bool, IsTrue, List, [], All, AllPairs, ◌+◌, ◌*◌, false, map}
use Rattle.iox2_container.specs.declared.container.handle.Role.{Role}

-- the number of a service, what a container of it holds, a slot, and the ticket of the entry in it
pub record Handle : Type 0 where
  pub service : ℕ
  pub role : Role
  pub slot : ℕ
  pub ticket : ℕ

-- details in a slot, and the ticket that they were given
pub record Entry (T : Type 0) : Type 0 where
  pub slot : ℕ
  pub ticket : ℕ
  pub details : T

-- a map of at most `capacity` entries. It issues the tickets 0, 1, 2 .. below `budget`
pub record RegistryState (T : Type 0) : Type 0 where
  pub service : ℕ
  pub role : Role
  pub capacity : ℕ
  pub budget : ℕ
  pub entries : List (Entry T)  -- by rising slot
  pub locked : Bool
  pub used : ℕ  -- how many tickets were handed out

-- what is true of every registry
pub record IsRegistry {T : Type 0} (r : RegistryState T) : Type 0 where
  pub slots_rise : AllPairs (λ a b. a.slot < b.slot) r.entries
  pub slots_below : All (λ e. e.slot < r.capacity) r.entries
  pub tickets_differ : AllPairs (λ a b. a.ticket ≢ b.ticket) r.entries
  pub tickets_used : All (λ e. e.ticket < r.used) r.entries
  pub budget_kept : r.used ≤ r.budget
  pub locked_is_empty : IsTrue r.locked → r.entries ≡ []

-- the key of the entry in the map
abbrev pub handle_of : {T : Type 0} → RegistryState T → Entry T → Handle
handle_of r e = record { service = r.service; role = r.role; slot = e.slot; ticket = e.ticket }

-- a registry, and how often its slots were touched
pub record ContainerState (T : Type 0) : Type 0 where
  pub registry : RegistryState T
  pub touches : ℕ

-- a registry that was touched this often
abbrev pub container : {T : Type 0} → RegistryState T → ℕ → ContainerState T
container registry touches = record { registry = registry; touches = touches }

-- an empty registry of which nothing was touched
abbrev pub fresh : {T : Type 0} → ℕ → Role → ℕ → ℕ → ContainerState T
fresh service role capacity tickets = record {
  registry =
      record {
        service = service;
        role = role;
        capacity = capacity;
        budget = tickets;
        entries = [];
        locked = false;
        used = 0;
      };
  touches = 0;
}

-- a change touched at most twice as many slots as there are
abbrev pub Touched : {T : Type 0} → ContainerState T → ContainerState T → Type 0
Touched old new =
    (new.touches ≤ old.touches + 2 * old.registry.capacity) × (old.touches ≤ new.touches)

-- an entry with other details
abbrev pub entry_as : {T U : Type 0} → (T → U) → Entry T → Entry U
entry_as g e = record { slot = e.slot; ticket = e.ticket; details = g e.details }

-- a registry with other details
abbrev pub registry_as : {T U : Type 0} → (T → U) → RegistryState T → RegistryState U
registry_as g r = record {
  service = r.service;
  role = r.role;
  capacity = r.capacity;
  budget = r.budget;
  entries = map (entry_as g) r.entries;
  locked = r.locked;
  used = r.used;
}

-- a container with other details
abbrev pub container_as : {T U : Type 0} → (T → U) → ContainerState T → ContainerState U
container_as g c = record { registry = registry_as g c.registry; touches = c.touches }
