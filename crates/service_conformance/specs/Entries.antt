-- Entries by rising slot, handles, and the number by which a service is found among many.
use Rattle.std.specs.Prelude.{◌%◌, ◌*◌, ◌+◌, ◌<◌, ◌≡◌, ◌≢◌, ◌≤◌, All, List, None, Option, Some, drop, false, fold, length, slice_get, take, true, ℕ}
use Rattle.service_conformance.specs.Prelude.{ContainerAddFailure, Entry, Handle, IsFull, IsLocked, OutOfSpace, RegistryState, ReleaseMode, Service, TakesEntry, Vec, handle_of, listed, lock_after}

-- an entry of this slot may be put in the position
pub record IsFreePosition {T : Type 0} (es : List (Entry T)) (slot position : ℕ) : Type 0 where
  pub within : position ≤ length es
  pub below : All (λ e. e.slot < slot) (take position es)
  pub above : All (λ e. slot < e.slot) (drop position es)

-- details in a slot, and the ticket that they were given
abbrev pub slot_entry : {T : Type 0} → ℕ → ℕ → T → Entry T
slot_entry slot ticket details = record { slot = slot; ticket = ticket; details = details }

-- the entry has this slot and this ticket
abbrev pub IsAt : {T : Type 0} → ℕ → ℕ → Entry T → Type 0
IsAt slot ticket e = (e.slot ≡ slot) × (e.ticket ≡ ticket)

-- the entry in the position has this slot and this ticket
abbrev pub HasAt : {T : Type 0} → List (Entry T) → ℕ → ℕ → ℕ → Type 0
HasAt {T} es slot ticket position =
    (x : Entry T) × (slice_get es position ≡ Some x) × IsAt slot ticket x

-- the entry in the position has the handle
abbrev pub StandsAt : {T : Type 0} → RegistryState T → Handle → ℕ → Type 0
StandsAt {T} r handle position =
    (x : Entry T) × (slice_get r.entries position ≡ Some x) × (handle ≡ handle_of r x)

-- a handle with the next ticket, of a slot that is free
pub record MayGive {T : Type 0} (r : RegistryState T) (h : Handle) : Type 0 where
  pub service : h.service ≡ r.service
  pub role : h.role ≡ r.role
  pub ticket : h.ticket ≡ r.used
  pub fits : h.slot < r.capacity
  pub free : All (λ e. e.slot ≢ h.slot) r.entries

-- why an add is refused, or that it is not
abbrev pub Refuses : {T : Type 0} → RegistryState T → Option ContainerAddFailure → Type 0
Refuses r None = TakesEntry r
Refuses r (Some IsLocked) = r.locked ≡ true
Refuses r (Some OutOfSpace) = (r.locked ≡ false) × IsFull r

-- a list can have the details of its entries
abbrev pub CanList : {T : Type 0} → RegistryState T → Type 0
CanList {T} r = (list : Vec T) × (list.items ≡ listed r)

-- the registry, with these entries left of it
abbrev pub with_left : {T : Type 0} → RegistryState T → ReleaseMode → List (Entry T)
    → RegistryState T
with_left r mode left = record r {
  entries = left;
  locked = lock_after mode (length r.entries) (length left) r.locked;
}

-- a number, with one slot more
abbrev pub slot_hash : ℕ → ℕ → ℕ
slot_hash hash slot = (hash % 1021 * 31 + slot % 1021) % 1021

-- a number, with the slots of these entries in turn
abbrev pub entries_hash : {T : Type 0} → ℕ → List (Entry T) → ℕ
entries_hash hash es = fold (λ h e. slot_hash h e.slot) hash es

-- the number of a service: the slots count in which its nodes and ports are
abbrev pub service_hash : Service → ℕ
service_hash s =
    entries_hash (entries_hash (entries_hash 0 s.nodes.registry.entries)
    s.ports.first.registry.entries) s.ports.second.registry.entries
