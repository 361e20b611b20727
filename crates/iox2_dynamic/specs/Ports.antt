-- The ports of a service, what the calls on them do, and what becomes of the ports and the nodes of
-- a dead node.
use Rattle.std.specs.Prelude.{Bool, true, false, ◌≡◌, ℕ, List, map, ◌+◌, if◌then◌else◌, [], ◌∷◌, ◌++◌, vec_len, vec_capacity, ◌≢◌, ◌≤◌, nat_lt, ◌||◌, ◌⊎◌, Option, Some, None, Result, Err, length}
use Rattle.iox2_container.specs.State.{container_as}
use Rattle.iox2_dynamic.specs.Prelude.{UniquePortId, Default, LockIfLastIndex, ReleaseState, RecoversBy, ContainerState, details_where, is_of, PortCleanupAction, PortDetails, Adds, ContainerAddFailure, ContainerRemoveError, Handle, HasEntry, IsUnknownHandle, RegistryState, Removes, Role, TakesEntry, Visit, entries_of, fresh, listed}
use Rattle.iox2_dynamic.specs.declared.dynamic_config.answers.PortCleanupAction.TheVariants.{RemovePort, SkipPort}
use Rattle.iox2_dynamic.specs.Details.{node_of, port_of, role_of}
use Rattle.std.specs.Global.{Vec}
use Rattle.iox2_texts.specs.declared.bounded.CallbackProgression.{CallbackProgression}
use Rattle.iox2_container.specs.declared.container.registry.ContainerRemoveError.TheVariants.{ContainerHandleNotOwnedByContainer}
use Rattle.iox2_container.specs.Steps.{CanVisit}

-- ports of two kinds. The first are recovered first
pub record PortsState (A B : Type 0) : Type 0 where
  pub first : ContainerState A
  pub second : ContainerState B

-- one of the two kinds
pub data Side : Type 0 where
  First : Side
  Second : Side

-- the first kind or the second
abbrev pub side_of : Bool → Side
side_of true = First
side_of false = Second

-- of what belongs to the two kinds, what belongs to this one
abbrev pub of_side : {A : Type 0} → Side → A → A → A
of_side First first second = first
of_side Second first second = second

-- the other kind
abbrev pub other_side : Side → Side
other_side First = Second
other_side Second = First

-- whether a port goes
abbrev pub removes : PortCleanupAction → Bool
removes RemovePort = true
removes SkipPort = false

-- a callback was called on a port, and its result says whether the port is removed
abbrev pub CallsCleanup : {F : Type 0} → (F → UniquePortId → PortCleanupAction → F → Type 0) → F
    → UniquePortId → Bool → F → Type 0
CallsCleanup calls f port goes f' =
    (action : PortCleanupAction) × calls f port action f' × (goes ≡ removes action)

-- the ids of the ports of the dead node, by rising slot
abbrev pub ids_of_node : ℕ → ContainerState PortDetails → List UniquePortId
ids_of_node dead c = map port_of (details_where (is_of node_of dead) c.registry)

-- a callback was called once on each port of the dead node, by rising slot, and exactly those are
-- removed that it removes
abbrev pub RecoversPorts : {F : Type 0} → (F → UniquePortId → PortCleanupAction → F → Type 0) → ℕ
    → ContainerState PortDetails → F → ContainerState PortDetails → F → Type 0
RecoversPorts calls dead old f new f' =
    (state : ReleaseState)
    × RecoversBy (λ g d goes h. CallsCleanup calls g (port_of d) goes h)
    (is_of node_of dead) old f Default state new f'

-- all entries of the dead node go
abbrev pub RecoversNodes : ℕ → ContainerState ℕ → ReleaseState → ContainerState ℕ → Type 0
RecoversNodes dead old state new =
    RecoversBy {F = Unit {0}} (λ _ _ goes _. goes ≡ true)
    (is_of (λ id. id) dead) old tt LockIfLastIndex state new tt

-- the ports of a service, whatever their kinds
abbrev pub Ports : Type 0
Ports = PortsState PortDetails PortDetails

-- the same ports, as details of ports of any kind
abbrev pub ports_as : {A B : Type 0} → (A → PortDetails) → (B → PortDetails) → PortsState A B
    → Ports
ports_as f g p = record { first = container_as f p.first; second = container_as g p.second }

-- no port yet, for this many of the first kind and this many of the second
abbrev pub empty_ports : {A B : Type 0} → Role → Role → ℕ → ℕ → ℕ → ℕ → PortsState A B
empty_ports a b service first second tickets = record {
  first = fresh service a first tickets;
  second = fresh service b second tickets;
}

-- the role is one of these two
abbrev pub IsEither : Role → Role → Role → Type 0
IsEither a b role = (role ≡ a) ⊎ (role ≡ b)

-- the role is neither of these two
abbrev pub IsNeither : Role → Role → Role → Type 0
IsNeither a b role = (role ≢ a) × (role ≢ b)

-- whether some port has the node
abbrev pub has_ports_of : ℕ → Ports → Bool
has_ports_of id p =
    nat_lt 0 (entries_of node_of id p.first.registry) || nat_lt 0
    (entries_of node_of id p.second.registry)

-- slots of each registry were touched at most twice
abbrev pub TouchesFew : {A B : Type 0} → PortsState A B → PortsState A B → Type 0
TouchesFew old new =
    (new.first.touches ≤ old.first.touches + 2) × (new.second.touches ≤ old.second.touches + 2)

-- the registry of the role takes this step, and the other one is as it was
pub record OnSide (a b : Role) (old : Ports) (role : Role)
    (Step : ContainerState PortDetails → ContainerState PortDetails → Type 0)
    (new : Ports) : Type 0 where
  pub side : Side
  pub role_is : role ≡ of_side side a b
  pub step : Step (of_side side old.first old.second) (of_side side new.first new.second)
  pub others : of_side (other_side side) new.first new.second
      ≡ of_side (other_side side) old.first old.second

-- what adding a port does, where these are the roles of the ports
abbrev pub AddsTo : Role → Role → Ports → PortDetails → Result Handle ContainerAddFailure → Ports
    → Type 0
AddsTo a b old details answer new =
    OnSide a b old (role_of details) (λ o n. Adds o details answer n) new

-- what removing a port does, where these are the roles of the ports
abbrev pub RemovesFrom : Role → Role → Ports → Handle → Result ReleaseState ContainerRemoveError
    → Ports → Type 0
RemovesFrom a b old handle answer new =
    OnSide a b old handle.role (λ o n. Removes o handle Default answer n) new
    ⊎ (IsNeither a b handle.role × (answer ≡ Err ContainerHandleNotOwnedByContainer) × (new ≡ old))

-- the ids of the ports of a dead node, those of the first
-- kind before those of the second, each by rising slot
abbrev pub port_ids_of_node : ℕ → Ports → List UniquePortId
port_ids_of_node dead p = ids_of_node dead p.first ++ ids_of_node dead p.second

-- the ports of a dead node, the first and then the second, by one callback on port ids
abbrev pub RecoversBoth : {F : Type 0} → (F → UniquePortId → PortCleanupAction → F → Type 0) → ℕ
    → Ports → F → Ports → F → Type 0
RecoversBoth {F} calls dead old f new f' =
    (between : F)
    × RecoversPorts calls dead old.first f new.first between
    × RecoversPorts calls dead old.second between new.second f'

-- what is said of the ports of a role; for another role nothing is said
abbrev pub OfRole : {A : Type 0} → (RegistryState PortDetails → A → Type 0) → Role → Role → Ports
    → Role → Option A → Type 0
OfRole says a b p role None = IsNeither a b role
OfRole says a b p role (Some x) =
    ((role ≡ a) × says p.first.registry x) ⊎ ((role ≡ b) × says p.second.registry x)

-- how many ports of a role there are; `None` for another role
abbrev pub CountsIn : Role → Role → Ports → Role → Option ℕ → Type 0
CountsIn = OfRole (λ r n. n ≡ length r.entries)

-- a port of the role would be added
abbrev pub TakesIn : Role → Role → Ports → Role → Type 0
TakesIn a b p role = ((role ≡ a) × TakesEntry p.first.registry)
    ⊎ ((role ≡ b) × TakesEntry p.second.registry)

-- no port has the handle
abbrev pub IsNoPort : Ports → Handle → Type 0
IsNoPort p handle = IsUnknownHandle p.first.registry handle
    × IsUnknownHandle p.second.registry handle

-- the port of the handle has these details
abbrev pub StandsAmong : Ports → Handle → PortDetails → Type 0
StandsAmong p handle details = HasEntry p.first.registry handle details
    ⊎ HasEntry p.second.registry handle details

-- the ports of a node, those of the first kind before those of the second, each by rising slot
abbrev pub ports_of_node : ℕ → Ports → List PortDetails
ports_of_node id p = details_where (is_of node_of id) p.first.registry
    ++ details_where (is_of node_of id) p.second.registry

-- a callback may be shown the ports of a role, if there are such ports
pub record CanListIn {F : Type 0} (takes : F → PortDetails → Type 0)
    (calls : F → PortDetails → CallbackProgression → F → Type 0)
    (a b : Role) (p : Ports) (role : Role) (f : F) : Type 0 where
  pub first : role ≡ a → CanVisit takes calls f (listed p.first.registry)
  pub second : role ≡ b → CanVisit takes calls f (listed p.second.registry)

-- a callback was shown the ports of a role, if there are such ports
abbrev pub ListsIn : {F : Type 0} → (F → PortDetails → CallbackProgression → F → Type 0) → Role
    → Role → Ports → Role → F → Bool → F → Type 0
ListsIn calls a b p role f false f' = IsNeither a b role × (f' ≡ f)
ListsIn calls a b p role f true f' =
    ((role ≡ a) × Visit calls f (listed p.first.registry) f')
    ⊎ ((role ≡ b) × Visit calls f (listed p.second.registry) f')

-- the details were put at the end, where they are to be put, and no memory was taken for them
abbrev pub PutsIf : Bool → PortDetails → Vec PortDetails → Vec PortDetails → Type 0
PutsIf goes details old new =
    (new.items ≡ (if goes then old.items ++ details ∷ [] else old.items))
    × (vec_len new ≡ (if goes then vec_len old + 1 else vec_len old))
    × (vec_capacity new ≡ vec_capacity old)
