-- What holds over every list of changes of a registry.
use Rattle.std.specs.Prelude.{◌≡◌, ℕ, Bool, false, Option, Some, None, Result, Ok, Err}
use Rattle.std.specs.Prelude.{List, [], ◌∷◌, ◌++◌, map, All, Contains, filter_map}
use Rattle.iox2_container.specs.declared.container.registry.ContainerAddFailure.{ContainerAddFailure}
use Rattle.iox2_container.specs.declared.container.registry.ContainerRemoveError.{ContainerRemoveError}
use Rattle.iox2_container.specs.declared.container.registry.ContainerRemoveError.TheVariants.{ContainerHandleNotOwnedByContainer}
use Rattle.iox2_container.specs.declared.container.registry.ReleaseMode.{ReleaseMode}
use Rattle.iox2_container.specs.declared.container.registry.ReleaseState.{ReleaseState}
use Rattle.iox2_container.specs.State.{Handle, RegistryState, IsRegistry, handle_of}
use Rattle.iox2_container.specs.Steps.{AddStep, RemoveStep, Recovers, HasEntry, CalledInTurn, details_where, marks_of, leaving}

-- a change that was requested, and its result
pub data Change (T : Type 0) : Type 0 where
  Adding : T → Result Handle ContainerAddFailure → Change T
  Removing : Handle → ReleaseMode → Result ReleaseState ContainerRemoveError → Change T
  -- with the marks of slots, and the handles of the entries that went
  Recovering : (T → Bool) → (ℕ → Bool) → List Handle → ReleaseMode → ReleaseState → Change T

-- the change leads from the old state to the new one
abbrev pub ChangeStep : {T : Type 0} → RegistryState T → Change T → RegistryState T → Type 0
ChangeStep old (Adding details result) new = AddStep old details result new
ChangeStep old (Removing handle mode result) new = RemoveStep old handle mode result new
ChangeStep old (Recovering is_dead marked went mode state) new =
    Recovers is_dead marked old mode state new
    × (went ≡ map (handle_of old) (leaving is_dead marked old.entries))

-- a change `Recovering`, whose marks are the answers that a callback gave about the candidates in
-- turn, leads from the old state to the new one
pub record IsRecoveryChange {F T : Type 0} (calls : F → T → Bool → F → Type 0) (is_dead : T → Bool)
    (old : RegistryState T) (f : F) (mode : ReleaseMode) (state : ReleaseState)
    (new : RegistryState T) (f' : F) : Type 0 where
  pub marked : ℕ → Bool
  pub went : List Handle
  pub called : CalledInTurn calls f (details_where is_dead old)
      (marks_of is_dead marked old.entries) f'
  pub changes : ChangeStep old (Recovering is_dead marked went mode state) new

-- one change after another; each state is that of a registry
abbrev pub History : {T : Type 0} → RegistryState T → List (Change T) → RegistryState T → Type 0
History old [] new = new ≡ old
History {T} old (change ∷ changes) new =
    (mid : RegistryState T) × ChangeStep old change mid × IsRegistry mid × History mid changes new

-- nothing was added yet
abbrev pub IsNew : {T : Type 0} → RegistryState T → Type 0
IsNew r = (r.entries ≡ []) × (r.locked ≡ false) × (r.used ≡ 0)

-- the change removed or recovered the entry of the handle
abbrev pub TakesOut : {T : Type 0} → Handle → Change T → Type 0
TakesOut handle (Adding details result) = ⊥
TakesOut handle (Removing removed mode (Ok state)) = handle ≡ removed
TakesOut handle (Removing removed mode (Err e)) = ⊥
TakesOut handle (Recovering is_dead marked went mode state) = Contains went handle

-- the details were added under the handle, and not since removed or recovered
pub record Remains {T : Type 0} (changes : List (Change T)) (handle : Handle)
    (details : T) : Type 0 where
  pub earlier : List (Change T)
  pub later : List (Change T)
  pub added : changes ≡ earlier ++ Adding details (Ok handle) ∷ later
  pub untouched : All (λ change. TakesOut handle change → ⊥) later

-- a removal by the handle is refused, and no entry has it
pub record IsRefused {T : Type 0} (r : RegistryState T) (handle : Handle) : Type 0 where
  pub removal : (mode : ReleaseMode) (result : Result ReleaseState ContainerRemoveError)
      (new : RegistryState T)
      → RemoveStep r handle mode result new → result ≡ Err ContainerHandleNotOwnedByContainer
  pub nothing : (details : T) → HasEntry r handle details → ⊥

-- the handle that the change gave
abbrev pub handle_given_by : {T : Type 0} → Change T → Option Handle
handle_given_by (Adding details (Ok handle)) = Some handle
handle_given_by (Adding details (Err failure)) = None
handle_given_by (Removing handle mode result) = None
handle_given_by (Recovering is_dead marked went mode state) = None

-- the handles that the changes gave
abbrev pub handles_given : {T : Type 0} → List (Change T) → List Handle
handles_given changes = filter_map handle_given_by changes
