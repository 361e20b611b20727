-- What a pass over all slots does with one of them, and in all.
use Rattle.std.specs.Prelude.{◌≡◌, ℕ, ◌+◌, ◌-◌, ◌≤◌, ◌<◌, Bool, true, false, Option, Some, None, List, length, map, slice_get, ⊤}
use Rattle.iox2_texts.specs.declared.bounded.CallbackProgression.{CallbackProgression}
use Rattle.iox2_texts.specs.declared.bounded.CallbackProgression.TheVariants.{Continue}
use Rattle.iox2_container.specs.declared.container.passes.Found.{Found}
use Rattle.iox2_container.specs.declared.container.slot_map.slots.Occupant.{Occupant}
use Rattle.iox2_container.specs.Cells.{occupant}
use Rattle.iox2_container.specs.State.{Entry}
use Rattle.iox2_container.specs.Steps.{CalledInTurn, marks_of, candidates, staying, is_of}

-- a callback was called on the entry of a slot, if there is one
abbrev pub CalledOnCell : {F A : Type 0} → (F → A → CallbackProgression → F → Type 0)
    → F → Option (Occupant A) → CallbackProgression → F → Type 0
CalledOnCell calls f None answer f' = (answer ≡ Continue) × (f' ≡ f)
CalledOnCell calls f (Some o) answer f' = calls f o.details answer f'

-- a callback may be called on the entry of a slot, if there is one
abbrev pub TakesCell : {F A : Type 0} → (F → A → Type 0) → F → Option (Occupant A) → Type 0
TakesCell takes f None = ⊤
TakesCell takes f (Some o) = takes f o.details

-- whether what is in a cell is the node's
abbrev pub cell_is_of : {T : Type 0} → (T → ℕ) → ℕ → Option (Occupant T) → Bool
cell_is_of node id None = false
cell_is_of node id (Some o) = is_of node id o.details

-- whether the entry of this slot is one of the node's
abbrev pub SlotIsOf : {T : Type 0} → (T → ℕ) → ℕ → List (Option (Occupant T)) → ℕ → Bool → Type 0
SlotIsOf {T} node id cells slot is = (cell : Option (Occupant T))
    × (slice_get cells slot ≡ Some cell) × (is ≡ cell_is_of node id cell)

-- no entry of the node is in these slots
abbrev pub AreOthers : {T : Type 0} → (T → ℕ) → ℕ → List (Option (Occupant T)) → ℕ → ℕ → Type 0
AreOthers node id cells from to = (slot : ℕ) → from ≤ slot → slot < to
    → SlotIsOf node id cells slot false

-- details of the node stand in a cell
abbrev pub CellHas : {T : Type 0} → (T → ℕ) → ℕ → Option (Occupant T) → T → Type 0
CellHas {T} node id cell details =
    (is_of node id details ≡ true) × ((ticket : ℕ) × (cell ≡ Some (occupant ticket details)))

-- details of the node stand in the cell of this slot
abbrev pub IsAt : {T : Type 0} → (T → ℕ) → ℕ → List (Option (Occupant T)) → ℕ → T → Type 0
IsAt {T} node id cells slot details = (is_of node id details ≡ true)
    × ((ticket : ℕ) × (slice_get cells slot ≡ Some (Some (occupant ticket details))))

-- the first entry of the node in the slots from `from` on and before `to`
pub record IsNextOf {T : Type 0} (node : T → ℕ) (id : ℕ) (cells : List (Option (Occupant T)))
    (from to : ℕ) (found : Found T) : Type 0 where
  pub order : from ≤ found.slot
  pub before : found.slot < to
  pub others : AreOthers node id cells from found.slot
  pub here : IsAt node id cells found.slot found.details

-- the last slot from `from` on and before `to` with an entry of the node,
-- and slots were looked at from the last one down to it: none twice
pub record IsLastOf {T : Type 0} (node : T → ℕ) (id : ℕ) (cells : List (Option (Occupant T)))
    (from to old new : ℕ) : Type 0 where
  pub slot : ℕ
  pub order : from ≤ slot
  pub before : slot < to
  pub others : AreOthers node id cells (slot + 1) to
  pub here : SlotIsOf node id cells slot true
  pub looks : new + slot ≡ old + to

-- how many slots a search from `from` on looked at: those up
-- to the one that it found, and with it, or all before `to`
abbrev pub looked_at : {T : Type 0} → ℕ → ℕ → Option (Found T) → ℕ
looked_at from to None = to - from
looked_at from to (Some found) = found.slot + 1 - from

-- this many entries went, as the callback said of the candidates in turn
pub record Swept {F T : Type 0} (calls : F → T → Bool → F → Type 0) (is_dead : T → Bool)
    (f : F) (old : List (Entry T)) (f' : F) (new : List (Entry T)) (gone : ℕ) : Type 0 where
  pub marked : ℕ → Bool
  pub called : CalledInTurn calls f (map (λ e. e.details) (candidates is_dead old))
      (marks_of is_dead marked old) f'
  pub left_is : new ≡ staying is_dead marked old
  pub gone_is : length new + gone ≡ length old
