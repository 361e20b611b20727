-- What contracts see of slots and of their cells: the entries in them, and what they say together
-- with a header.
use Rattle.std.specs.Prelude.{ℕ, Option, Some, None, List, ◌≡◌, ◌≢◌, ◌+◌, ◌≤◌, [], ◌∷◌, map, slice_get, All, length}
use Rattle.iox2_container.specs.declared.container.slot_map.slots.Cell.{Cell}
use Rattle.iox2_container.specs.declared.container.slot_map.slots.Cell.TheVariants.{Taken, Free}
use Rattle.iox2_container.specs.declared.container.slot_map.slots.Occupant.{Occupant}
use Rattle.iox2_container.specs.State.{Handle, Entry, RegistryState, IsRegistry}
use Rattle.iox2_container.specs.declared.container.counted_map.RegistryHeader.{RegistryHeader}

-- the cells of slots, how many there is memory for, and how often one was read or written
pub record Cells (C : Type 0) : Type 0 where
  pub cells : List C
  pub room : ℕ
  pub touches : ℕ

-- details, and the ticket that they were given
abbrev pub occupant : {T : Type 0} → ℕ → T → Occupant T
occupant ticket details = record { ticket = ticket; details = details }

-- what stands in a cell, if it is taken
abbrev pub shown : {T N : Type 0} → Cell T N → Option (Occupant T)
shown (Taken ticket details) = Some (occupant ticket details)
shown (Free next) = None

-- the entries in cells of which the first is this slot
abbrev pub entries_from : {T : Type 0} → ℕ → List (Option (Occupant T)) → List (Entry T)
entries_from slot [] = []
entries_from slot (None ∷ cells) = entries_from (slot + 1) cells
entries_from slot (Some o ∷ cells) =
    record { slot = slot; ticket = o.ticket; details = o.details } ∷ entries_from (slot + 1) cells

-- the details in cells, by rising slot
abbrev pub details_in : {T : Type 0} → List (Option (Occupant T)) → List T
details_in cells = map (λ e. e.details) (entries_from 0 cells)

-- something stands in the cell
abbrev pub IsTakenAt : {T : Type 0} → List (Option (Occupant T)) → ℕ → Type 0
IsTakenAt {T} cells slot = (o : Occupant T) × (slice_get cells slot ≡ Some (Some o))

-- no entry is in this slot, nor in a later one
abbrev pub NoneFrom : {T : Type 0} → List (Option (Occupant T)) → ℕ → Type 0
NoneFrom cells end = (slot : ℕ) → end ≤ slot → IsTakenAt cells slot → ⊥

-- the details in the handle's slot, if they have its ticket
abbrev pub Finds : {T : Type 0} → List (Option (Occupant T)) → Handle → Option T → Type 0
Finds {T} cells handle None = (details : T)
    → slice_get cells handle.slot ≢ Some (Some (occupant handle.ticket details))
Finds cells handle (Some details) =
    slice_get cells handle.slot ≡ Some (Some (occupant handle.ticket details))

-- the registry that a header and cells stand for
abbrev pub registry_of : {T : Type 0} → RegistryHeader → List (Option (Occupant T))
    → RegistryState T
registry_of a cells = record {
  service = a.service;
  role = a.role;
  capacity = length cells;
  budget = a.budget;
  entries = entries_from 0 cells;
  locked = a.locked;
  used = a.used;
}

-- header and cells fit together, and the end is
-- just behind the slot of the entry that came last, while it is there
pub record AreRegistry {T : Type 0} (a : RegistryHeader) (cells : List (Option (Occupant T)))
    (newest_end : ℕ) : Type 0 where
  pub registry : IsRegistry (registry_of a cells)
  pub counted : a.count ≡ length (entries_from 0 cells)
  pub newest : All (λ e. e.ticket + 1 ≡ a.used → newest_end ≡ e.slot + 1) (entries_from 0 cells)
