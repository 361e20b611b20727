-- What the calls on a service do, and how a service reports a registry's answers.
use Rattle.std.specs.Prelude.{Result, Ok, Err, ◌≡◌, ◌<◌, ℕ, nat_eq, ◌&&◌, Bool, true, false}
use Rattle.iox2_dynamic.specs.Prelude.{ContainerAddFailure, ReleaseState, Handle, DeregisterNodeState, RegisterNodeResult, PatternKind, Role, UniquePortId, ContainerRemoveError, LockIfLastIndex, ContainerState, IsUnknownHandle, HasEntry, release_state, PortCleanupAction, PortDetails, Adds, Removes}
use Rattle.iox2_container.specs.declared.container.registry.ContainerAddFailure.TheVariants as container
use Rattle.iox2_container.specs.declared.container.registry.ReleaseState.TheVariants.{Locked, Unlocked}
use Rattle.iox2_dynamic.specs.declared.dynamic_config.answers.DeregisterNodeState.TheVariants.{HasOwners, NoMoreOwners}
use Rattle.iox2_dynamic.specs.declared.dynamic_config.answers.RegisterNodeResult.TheVariants.{MarkedForDestruction, ExceedsMaxNumberOfNodes}
use Rattle.iox2_dynamic.specs.declared.dynamic_config.answers.AttachError.{AttachError}
use Rattle.iox2_dynamic.specs.declared.dynamic_config.answers.AttachError.TheVariants.{ServiceIsLocked, NodeNotRegistered, OutOfSpace}
use Rattle.iox2_dynamic.specs.declared.dynamic_config.answers.DeregisterError.{DeregisterError}
use Rattle.iox2_dynamic.specs.declared.dynamic_config.answers.DeregisterError.TheVariants.{ContainerHandleNotOwnedByContainer, PortsStillAttached}
use Rattle.iox2_dynamic.specs.Ports.{RecoversNodes, Ports, AddsTo, RemovesFrom, RecoversBoth, has_ports_of}
use Rattle.iox2_dynamic.specs.Details.{node_of}
use Rattle.iox2_dynamic.specs.Service.{Service, IsService, entries_of_node, first_role, second_role}

-- the lock that a state reports
abbrev pub state_of : DeregisterNodeState → ReleaseState
state_of NoMoreOwners = Locked
state_of HasOwners = Unlocked

-- the registry's answer to an add, for a service's answer to a registration
abbrev pub answer_of : Result Handle RegisterNodeResult → Result Handle ContainerAddFailure
answer_of (Ok handle) = Ok handle
answer_of (Err MarkedForDestruction) = Err container.IsLocked
answer_of (Err ExceedsMaxNumberOfNodes) = Err container.OutOfSpace

-- what registering a node does
abbrev pub RegisterStep : Service → ℕ → Result Handle RegisterNodeResult → Service → Type 0
RegisterStep old id answer new =
    Adds old.nodes id (answer_of answer) new.nodes × (new ≡ record old { nodes = new.nodes })

-- whether the node has one entry, and some port has the node
abbrev pub is_last_of_ports : ℕ → Service → Bool
is_last_of_ports id s = nat_eq (entries_of_node id s.nodes.registry) 1 && has_ports_of id s.ports

-- what deregistering a node does
abbrev pub DeregisterStep : Service → Handle → Result DeregisterNodeState DeregisterError → Service
    → Type 0
DeregisterStep old handle (Err ContainerHandleNotOwnedByContainer) new =
    IsUnknownHandle old.nodes.registry handle × (new ≡ old)
DeregisterStep old handle (Err PortsStillAttached) new =
    (id : ℕ) × HasEntry old.nodes.registry handle id × (is_last_of_ports id old ≡ true)
    × (new ≡ old)
DeregisterStep old handle (Ok state) new =
    (id : ℕ) × HasEntry old.nodes.registry handle id × (is_last_of_ports id old ≡ false)
    × Removes old.nodes handle LockIfLastIndex (Ok (state_of state)) new.nodes
    × (new ≡ record old { nodes = new.nodes })

-- the service is not locked, and the node is registered
abbrev pub IsOpenFor : Service → ℕ → Type 0
IsOpenFor s id = (s.nodes.registry.locked ≡ false) × (0 < entries_of_node id s.nodes.registry)

-- what adding a port of one of the pattern's roles does
abbrev pub AddsPort : Service → PortDetails → Result Handle ContainerAddFailure → Service → Type 0
AddsPort old details answer new =
    AddsTo (first_role old.pattern) (second_role old.pattern) old.ports details answer new.ports
    × (new ≡ record old { ports = new.ports })

-- what attaching a port of one of the pattern's roles does
abbrev pub AttachStep : Service → PortDetails → Result Handle AttachError → Service → Type 0
AttachStep old details (Err ServiceIsLocked) new = (old.nodes.registry.locked ≡ true) × (new ≡ old)
AttachStep old details (Err NodeNotRegistered) new =
    (old.nodes.registry.locked ≡ false) × (entries_of_node (node_of details) old.nodes.registry ≡ 0)
    × (new ≡ old)
AttachStep old details (Err OutOfSpace) new =
    IsOpenFor old (node_of details) × AddsPort old details (Err container.OutOfSpace) new
AttachStep old details (Ok handle) new = IsOpenFor old (node_of details)
    × AddsPort old details (Ok handle) new

-- whether a port of the node may be attached, by the nodes alone
abbrev pub Admits : ContainerState ℕ → ℕ → Result (Unit {0}) AttachError → Type 0
Admits nodes id (Ok _) = (nodes.registry.locked ≡ false)
    × (0 < entries_of_node id nodes.registry)
Admits nodes id (Err ServiceIsLocked) = nodes.registry.locked ≡ true
Admits nodes id (Err NodeNotRegistered) = (nodes.registry.locked ≡ false)
    × (entries_of_node id nodes.registry ≡ 0)
Admits nodes id (Err OutOfSpace) = ⊥

-- what attaching a port does to the ports of a service with
-- these nodes, where these are the roles of its pattern
abbrev pub AttachesTo : Role → Role → ContainerState ℕ → Ports → PortDetails
    → Result Handle AttachError → Ports → Type 0
AttachesTo a b nodes old details answer new =
    (pattern : PatternKind) → first_role pattern ≡ a → second_role pattern ≡ b
    → IsService (record { pattern = pattern; ports = old; nodes = nodes })
    → AttachStep (record { pattern = pattern; ports = old; nodes = nodes }) details answer
    (record { pattern = pattern; ports = new; nodes = nodes })

-- what removing a port does
abbrev pub RemovesPort : Service → Handle → Result ReleaseState ContainerRemoveError → Service
    → Type 0
RemovesPort old handle answer new =
    RemovesFrom (first_role old.pattern) (second_role old.pattern) old.ports handle answer new.ports
    × (new ≡ record old { ports = new.ports })

-- what releasing a port does
abbrev pub ReleaseStep : Service → Handle → Result (Unit {0}) ContainerRemoveError → Service
    → Type 0
ReleaseStep old handle (Ok _) new = (state : ReleaseState) × RemovesPort old handle (Ok state) new
ReleaseStep old handle (Err why) new = RemovesPort old handle (Err why) new

-- the nodes, after the callback was called on the ports of the dead node: where one of them is
-- left, no node is removed
abbrev pub NodesAfter : ℕ → Bool → ContainerState ℕ → ReleaseState → ContainerState ℕ → Type 0
NodesAfter dead true old state new = (state ≡ release_state old.registry.locked) × (new ≡ old)
NodesAfter dead false old state new = RecoversNodes dead old state new

-- what the recovery of a dead node does: the callback is called on its ports of the first kind,
-- then on those of the second, and then all entries of the node are removed if none of its ports is
-- left
pub record DeadStep {F : Type 0} (calls : F → UniquePortId → PortCleanupAction → F → Type 0)
    (old : Service) (f : F) (dead : ℕ) (answer : DeregisterNodeState) (new : Service)
    (f' : F) : Type 0 where
  pub ports : RecoversBoth calls dead old.ports f new.ports f'
  pub nodes : NodesAfter dead (has_ports_of dead new.ports) old.nodes (state_of answer) new.nodes
  pub others : new ≡ record old { ports = new.ports; nodes = new.nodes }
