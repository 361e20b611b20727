-- What the calls on a registry do, when callbacks may be called in them, and what is true of a
-- container after each change.
use Rattle.std.specs.Prelude.{List, [], ◌∷◌, ⊤, ◌≡◌, ◌≢◌, ℕ, zero, suc, ◌+◌, ◌<◌, ◌≤◌, ◌==◌, ◌⊎◌, Bool, true, false, if◌then◌else◌, not, ◌&&◌, Result, Ok, Err, ◌++◌, length, map, filter, All}
pub use Rattle.iox2_texts.specs.Callbacks.{MayVisit, CanVisit}
use Rattle.iox2_texts.specs.Attribute.{Visits}
use Rattle.iox2_texts.specs.declared.bounded.CallbackProgression.{CallbackProgression}
use Rattle.iox2_container.specs.declared.container.registry.ContainerAddFailure.{ContainerAddFailure}
use Rattle.iox2_container.specs.declared.container.registry.ContainerAddFailure.TheVariants.{IsLocked, OutOfSpace}
use Rattle.iox2_container.specs.declared.container.registry.ContainerRemoveError.{ContainerRemoveError}
use Rattle.iox2_container.specs.declared.container.registry.ReleaseMode.{ReleaseMode}
use Rattle.iox2_container.specs.declared.container.registry.ReleaseMode.TheVariants.{Default, LockIfLastIndex}
use Rattle.iox2_container.specs.declared.container.registry.ReleaseState.{ReleaseState}
use Rattle.iox2_container.specs.declared.container.registry.ReleaseState.TheVariants.{Locked, Unlocked}
use Rattle.iox2_container.specs.State.{Handle, Entry, RegistryState, handle_of, ContainerState, Touched, IsRegistry}

-- the callback may be called on each item in order: on the first in the state f, and on each later
-- one in every state that the call on the one before it may leave
abbrev pub MayCall : {F A R : Type 0} → (F → A → Type 0) → (F → A → R → F → Type 0) → F → List A
    → Type 0
MayCall takes calls f [] = ⊤
MayCall {F} {A} {R} takes calls f (item ∷ items) =
    takes f item × ((answer : R) (g : F) → calls f item answer g → MayCall takes calls g items)

-- the callback may be called on each item in order, whatever it returns; a record round `MayCall`,
-- so that a proof finds the calls in it
pub record CanBeCalled {F A R : Type 0} (takes : F → A → Type 0) (calls : F → A → R → F → Type 0)
    (f : F) (items : List A) : Type 0 where
  pub may_call : MayCall takes calls f items

-- the new entries are the old ones and x
pub record InsertsOne {T : Type 0} (old new : List (Entry T)) (x : Entry T) : Type 0 where
  pub before : List (Entry T)
  pub after : List (Entry T)
  pub old_is : old ≡ before ++ after
  pub new_is : new ≡ before ++ x ∷ after

-- an entry fits, and there is a ticket for it
abbrev pub HasRoom : {T : Type 0} → RegistryState T → Type 0
HasRoom r = (length r.entries < r.capacity) × (r.used < r.budget)

-- an add is not refused
abbrev pub TakesEntry : {T : Type 0} → RegistryState T → Type 0
TakesEntry r = (r.locked ≡ false) × HasRoom r

-- no entry fits, or there is no ticket for it
abbrev pub IsFull : {T : Type 0} → RegistryState T → Type 0
IsFull r = (r.capacity ≤ length r.entries) ⊎ (r.budget ≤ r.used)

-- the details got the next ticket and a free slot
abbrev pub Enters : {T : Type 0} → RegistryState T → T → Handle → RegistryState T → Type 0
Enters {T} old details handle new =
    let x : Entry T = record { slot = handle.slot; ticket = old.used; details = details } in
    (handle ≡ handle_of old x)
    × All (λ e. e.slot ≢ x.slot) old.entries
    × InsertsOne old.entries new.entries x
    × (new ≡ record old { entries = new.entries; used = old.used + 1 })

-- what `add` may do
abbrev pub AddStep : {T : Type 0} → RegistryState T → T → Result Handle ContainerAddFailure
    → RegistryState T → Type 0
AddStep old details (Err IsLocked) new = (old.locked ≡ true) × (new ≡ old)
AddStep old details (Err OutOfSpace) new = (old.locked ≡ false) × IsFull old × (new ≡ old)
AddStep old details (Ok handle) new = (old.locked ≡ false) × HasRoom old
    × Enters old details handle new

-- the answer by the lock
abbrev pub release_state : Bool → ReleaseState
release_state locked = if locked then Locked else Unlocked

-- the lock, where there were so many entries, and so many are left
abbrev pub lock_after : ReleaseMode → ℕ → ℕ → Bool → Bool
lock_after Default before left locked = locked
lock_after LockIfLastIndex zero left locked = locked
lock_after LockIfLastIndex (suc before) zero locked = true
lock_after LockIfLastIndex (suc before) (suc left) locked = locked

-- the entry of the handle goes
abbrev pub Leaves : {T : Type 0} → RegistryState T → Handle → ReleaseMode → RegistryState T → Type 0
Leaves {T} old handle mode new =
    (x : Entry T) × (handle ≡ handle_of old x) × InsertsOne new.entries old.entries x
    × (new ≡ record old {
      entries = new.entries;
      locked = lock_after mode (length old.entries) (length new.entries) old.locked;
    })

-- no entry has the handle
abbrev pub IsUnknownHandle : {T : Type 0} → RegistryState T → Handle → Type 0
IsUnknownHandle r handle = All (λ x. handle ≢ handle_of r x) r.entries

-- what `remove` may do
abbrev pub RemoveStep : {T : Type 0} → RegistryState T → Handle → ReleaseMode
    → Result ReleaseState ContainerRemoveError → RegistryState T → Type 0
RemoveStep old handle mode (Ok state) new = Leaves old handle mode new
    × (state ≡ release_state new.locked)
RemoveStep old handle mode (Err e) new = IsUnknownHandle old handle × (new ≡ old)

-- the entry of the handle has these details
abbrev pub HasEntry : {T : Type 0} → RegistryState T → Handle → T → Type 0
HasEntry {T} r handle details =
    (x : Entry T) × (handle ≡ handle_of r x) × (x.details ≡ details)
    × ((rest : List (Entry T)) × InsertsOne rest r.entries x)

-- a callback was called once on each item, in order, and returned these results
abbrev pub CalledInTurn : {F A R : Type 0} → (F → A → R → F → Type 0) → F → List A → List R → F
    → Type 0
CalledInTurn calls f [] [] f' = f' ≡ f
CalledInTurn calls f [] (answer ∷ answers) f' = ⊥
CalledInTurn calls f (item ∷ items) [] f' = ⊥
CalledInTurn {F} calls f (item ∷ items) (answer ∷ answers) f' =
    (g : F) × calls f item answer g × CalledInTurn calls g items answers f'

-- the details by rising slot
abbrev pub listed : {T : Type 0} → RegistryState T → List T
listed r = map (λ e. e.details) r.entries

-- a callback was called on the items in order, up to and with the first `Stop`, or on all. It is a
-- record, so that a proof finds the calls in it
pub record Visit {F A : Type 0} (calls : F → A → CallbackProgression → F → Type 0) (f : F)
    (items : List A) (f' : F) : Type 0 where
  pub visits : Visits calls f items f'

-- whether details are those of the node
abbrev pub is_of : {T : Type 0} → (T → ℕ) → ℕ → T → Bool
is_of node id details = node details == id

-- the entries whose details pass a test
abbrev pub candidates : {T : Type 0} → (T → Bool) → List (Entry T) → List (Entry T)
candidates is_dead entries = filter (λ e. is_dead e.details) entries

-- the details of the candidates, by rising slot
abbrev pub details_where : {T : Type 0} → (T → Bool) → RegistryState T → List T
details_where is_dead r = map (λ e. e.details) (candidates is_dead r.entries)

-- how many entries are those of the node
abbrev pub entries_of : {T : Type 0} → (T → ℕ) → ℕ → RegistryState T → ℕ
entries_of node id r = length (candidates (is_of node id) r.entries)

-- whether an entry goes: a candidate goes where its slot is marked, and no other entry does
abbrev pub is_leaving : {T : Type 0} → (T → Bool) → (ℕ → Bool) → Entry T → Bool
is_leaving is_dead marked e = is_dead e.details && marked e.slot

-- the entries that go
abbrev pub leaving : {T : Type 0} → (T → Bool) → (ℕ → Bool) → List (Entry T) → List (Entry T)
leaving is_dead marked entries = filter (is_leaving is_dead marked) entries

-- the entries that stay
abbrev pub staying : {T : Type 0} → (T → Bool) → (ℕ → Bool) → List (Entry T) → List (Entry T)
staying is_dead marked entries = filter (λ e. not (is_leaving is_dead marked e)) entries

-- the marks of the candidates, by rising slot, which are the answers about them
abbrev pub marks_of : {T : Type 0} → (T → Bool) → (ℕ → Bool) → List (Entry T) → List Bool
marks_of is_dead marked entries = map (λ e. marked e.slot) (candidates is_dead entries)

-- the candidates whose slots are marked go, and the last one locks where the mode says so
abbrev pub Recovers : {T : Type 0} → (T → Bool) → (ℕ → Bool) → RegistryState T → ReleaseMode
    → ReleaseState → RegistryState T → Type 0
Recovers is_dead marked old mode state new =
    (new ≡ record old {
      entries = staying is_dead marked old.entries;
      locked = lock_after mode (length old.entries) (length new.entries) old.locked;
    })
    × (state ≡ release_state new.locked)

-- what `recover` may do, where `calls` are the calls of its callback: it is called on the
-- candidates in turn, it returns the mark of each one's slot, and those that are marked are removed
pub record RecoverStep {T F : Type 0} (calls : F → T → Bool → F → Type 0) (is_dead : T → Bool)
    (old : RegistryState T) (f : F) (mode : ReleaseMode) (state : ReleaseState)
    (new : RegistryState T) (f' : F) : Type 0 where
  pub marked : ℕ → Bool
  pub called : CalledInTurn calls f (details_where is_dead old)
      (marks_of is_dead marked old.entries) f'
  pub recovers : Recovers is_dead marked old mode state new

-- a step led to a registry, and touched the slots at most twice as often as there are slots
pub record Changes {T : Type 0} (Step : RegistryState T → RegistryState T → Type 0)
    (old new : ContainerState T) : Type 0 where
  pub step : Step old.registry new.registry
  pub kept : IsRegistry new.registry
  pub touched : Touched old new

-- what adding an entry may do
abbrev pub Adds : {T : Type 0} → ContainerState T → T → Result Handle ContainerAddFailure
    → ContainerState T → Type 0
Adds old details answer new = Changes (λ r s. AddStep r details answer s) old new

-- what removing an entry may do
abbrev pub Removes : {T : Type 0} → ContainerState T → Handle → ReleaseMode
    → Result ReleaseState ContainerRemoveError → ContainerState T → Type 0
Removes old handle mode answer new = Changes (λ r s. RemoveStep r handle mode answer s) old new

-- what recovering entries may do, where `calls` are the calls of the callback
abbrev pub RecoversBy : {F T : Type 0} → (F → T → Bool → F → Type 0) → (T → Bool)
    → ContainerState T → F → ReleaseMode → ReleaseState → ContainerState T → F → Type 0
RecoversBy calls is_dead old f mode state new f' =
    Changes (λ r s. RecoverStep calls is_dead r f mode state s f') old new
