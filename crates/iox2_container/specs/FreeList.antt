-- Free slots in a list that is linked through their cells.
use Rattle.std.specs.Prelude.{◌≡◌, ◌≢◌, ℕ, ◌+◌, ◌≤◌, ◌<◌, Option, Some, None, List, [], ◌∷◌, length, map, slice_get, All, ⊤}
use Rattle.iox2_container.specs.declared.container.slot_map.slots.Cell.{Cell}
use Rattle.iox2_container.specs.declared.container.slot_map.slots.Cell.TheVariants.{Taken, Free}
use Rattle.iox2_container.specs.declared.container.free.FreeList.{FreeList}
use Rattle.iox2_container.specs.Cells.{entries_from, shown}

-- a cell that names the next free slot, where it is free
abbrev pub Linked : Type 0 → Type 0
Linked T = Cell T (Option ℕ)

-- who follows the head through the cells visits these slots, and each once
abbrev pub LeadsThrough : {T : Type 0} → List (Linked T) → Option ℕ → List ℕ → Type 0
LeadsThrough cells None [] = ⊤
LeadsThrough cells None (slot ∷ slots) = ⊥
LeadsThrough cells (Some head) [] = ⊥
LeadsThrough {T} cells (Some head) (slot ∷ slots) =
    (head ≡ slot)
    × All (λ later. later ≢ slot) slots
    × ((next : Option ℕ) × (slice_get cells slot ≡ Some (Free next))
    × LeadsThrough cells next slots)

-- the cell is free, and names the next one
abbrev pub IsFreeAt : {T : Type 0} → List (Linked T) → ℕ → Type 0
IsFreeAt cells slot = (next : Option ℕ) × (slice_get cells slot ≡ Some (Free next))

-- the first slot of the list was taken, or the first fresh one where the list is empty
abbrev pub TakesFirst : {T : Type 0} → List (Linked T) → Option ℕ → ℕ → ℕ → Option ℕ → ℕ → Type 0
TakesFirst cells (Some head) fresh slot head' fresh' =
    (slot ≡ head) × (slice_get cells head ≡ Some (Free head')) × (fresh' ≡ fresh)
TakesFirst cells None fresh slot head' fresh' = (slot ≡ fresh) × (head' ≡ None)
    × (fresh' ≡ fresh + 1)

-- these slots are free again, the one that was freed last first
abbrev pub AreFreed : {T : Type 0} → FreeList → List (Linked T) → List ℕ → Type 0
AreFreed l cells freed = LeadsThrough cells l.head freed

-- the slot that was freed last is taken, or else the first that was never used
abbrev pub TakesLastFreed : List ℕ → ℕ → ℕ → List ℕ → ℕ → Type 0
TakesLastFreed [] fresh slot left fresh' = (slot ≡ fresh) × (left ≡ []) × (fresh' ≡ fresh + 1)
TakesLastFreed (last ∷ freed) fresh slot left fresh' = (slot ≡ last) × (left ≡ freed)
    × (fresh' ≡ fresh)

-- whatever slots are free again, the one that was freed
-- last is taken, or else the first that was never used
abbrev pub PutsFirst : {T : Type 0} → FreeList → List (Linked T) → ℕ → FreeList → List (Linked T)
    → Type 0
PutsFirst old cells slot new cells' =
    (freed : List ℕ) → AreFreed old cells freed
    → (left : List ℕ) × AreFreed new cells' left
    × TakesLastFreed freed old.fresh slot left new.fresh

-- each slot that was used before is taken, or in the list once; each later one is free
pub record IsFreeList {T : Type 0} (l : FreeList) (cells : List (Linked T)) : Type 0 where
  pub free : List ℕ
  pub threads : LeadsThrough cells l.head free
  pub used_before : All (λ slot. slot < l.fresh) free
  pub fresh_are_free : (slot : ℕ) → l.fresh ≤ slot → (ticket : ℕ) → (details : T)
      → slice_get cells slot ≢ Some (Taken ticket details)
  pub all_counted : length (entries_from 0 (map shown cells)) + length free ≡ l.fresh
  pub fresh_within : l.fresh ≤ length cells
