-- The step of a service under one command, its parts, and runs of many.
use Rattle.std.specs.Prelude.{◌≡◌, Some, ℕ, ◌==◌, if◌then◌else◌, List, [], ◌∷◌, ◌-◌, ◌^◌, ◌++◌, Option, None, Result, Ok, Err, AllPairs, take, length, ◌≢◌, slice_get, unwrap_or}
use Rattle.service_descriptions.specs.Prelude.{Role, listed, CountsIn, OfRole, LacksRole, Service, first_role, second_role, Reply, list_any, UniquePortId, port_value, DeregisterNodeState, PortCleanupAction, DeadStep, ByOrder, ByPort, Handle, PortDetails, role_of, IsService, HasRole, PatternCapacities, fresh_service, RegisterStep, DeregisterStep, AttachStep, ReleaseStep, Description, Command}
use Rattle.service_descriptions.specs.declared.replay.machine.reply.Reply.TheVariants as reply
use Rattle.iox2_dynamic.specs.declared.dynamic_config.answers.DeregisterNodeState.TheVariants as nodes
use Rattle.iox2_dynamic.specs.declared.dynamic_config.answers.PortCleanupAction.TheVariants.{RemovePort, SkipPort}
use Rattle.service_descriptions.specs.declared.replay.machine.command.Cleanup.{Cleanup}
use Rattle.iox2_container.specs.declared.container.registry.ContainerRemoveError.TheVariants as container
use Rattle.iox2_dynamic.specs.declared.dynamic_config.answers.AttachError.{AttachError}
use Rattle.iox2_dynamic.specs.declared.dynamic_config.answers.AttachError.TheVariants.{ServiceIsLocked, NodeNotRegistered, OutOfSpace}
use Rattle.iox2_dynamic.specs.declared.dynamic_config.answers.DeregisterError.TheVariants.{ContainerHandleNotOwnedByContainer, PortsStillAttached}
use Rattle.iox2_dynamic.specs.declared.dynamic_config.answers.RegisterNodeResult.TheVariants.{MarkedForDestruction, ExceedsMaxNumberOfNodes}
use Rattle.service_descriptions.specs.declared.replay.machine.command.Command.TheVariants as command
use Rattle.service_descriptions.specs.Descriptions.{ServesVerify, ServesMessages, ServesLayout, ServesPlaces, ServesCompatible}

-- the handle that the earlier command k was answered with; none where
-- there is no such command, or it was answered with no handle
abbrev pub named : List (Option Handle) → ℕ → Option Handle
named handles k = unwrap_or (slice_get handles k) None

-- not the same handle twice
abbrev pub Differ : Option Handle → Option Handle → Type 0
Differ (Some a) (Some b) = a ≢ b
Differ _ _ = Unit {0}

-- how listing the nodes is answered
abbrev pub ServesNodes : Service → Reply → Type 0
ServesNodes s (reply.Nodes ids) = ids.items ≡ listed s.nodes.registry
ServesNodes s _ = ⊥

-- how listing the ports of a role is answered
abbrev pub ServesList : Service → Role → Reply → Type 0
ServesList s role (reply.Ports ports) =
    OfRole (λ r items. items ≡ listed r) (first_role s.pattern) (second_role s.pattern) s.ports role
    (Some ports.items)
ServesList s role reply.WrongPattern = LacksRole s.pattern role
ServesList s role _ = ⊥

-- how counting the ports of a role is answered
abbrev pub ServesCount : Service → Role → Reply → Type 0
ServesCount s role (reply.Count n) =
    CountsIn (first_role s.pattern) (second_role s.pattern) s.ports role (Some n)
ServesCount s role reply.WrongPattern = LacksRole s.pattern role
ServesCount s role _ = ⊥

-- the next answer of a list; after its end every port goes
abbrev pub first_action : List PortCleanupAction → PortCleanupAction
first_action [] = RemovePort
first_action (action ∷ actions) = action

-- the answers after it
abbrev pub other_actions : List PortCleanupAction → List PortCleanupAction
other_actions [] = []
other_actions (action ∷ actions) = actions

-- the answer on the port of this value, where ports of these values stay
abbrev pub action_for : List ℕ → ℕ → PortCleanupAction
action_for kept value = if list_any (λ k. k == value) kept then SkipPort else RemovePort

-- the answers that a cleanup has in order
abbrev pub actions_in : Cleanup → List PortCleanupAction
actions_in (ByOrder actions) = actions.items
actions_in (ByPort kept) = []

-- what a cleanup answers on a port, where these answers were left before and after
abbrev pub Cleans : Cleanup → List PortCleanupAction → UniquePortId → PortCleanupAction
    → List PortCleanupAction → Type 0
Cleans (ByOrder actions) left port action left' = (action ≡ first_action left)
    × (left' ≡ other_actions left)
Cleans (ByPort kept) left port action left' = (action ≡ action_for kept.items (port_value port))
    × (left' ≡ left)

-- a dead node was removed with this cleanup
abbrev pub CleanedUp : Service → ℕ → Cleanup → DeregisterNodeState → Service → Type 0
CleanedUp old dead cleanup answer new =
    (left : List PortCleanupAction)
    × DeadStep (Cleans cleanup) old (actions_in cleanup) dead answer new left

-- what is replied where entries of a node were removed
abbrev pub reply_of_owners : DeregisterNodeState → Reply
reply_of_owners nodes.HasOwners = reply.HasOwners
reply_of_owners nodes.NoMoreOwners = reply.NoMoreOwners

-- how removing a dead node with this cleanup is answered
abbrev pub ServesDead : Service → ℕ → Cleanup → Reply → Service → Type 0
ServesDead old dead cleanup reply.HasOwners new = CleanedUp old dead cleanup nodes.HasOwners new
ServesDead old dead cleanup reply.NoMoreOwners new =
    CleanedUp old dead cleanup nodes.NoMoreOwners new
ServesDead old dead cleanup _ new = ⊥

-- how registering a node is answered
abbrev pub ServesRegister : Service → ℕ → Reply → Service → Type 0
ServesRegister old id (reply.Handle handle) new = RegisterStep old id (Ok handle) new
ServesRegister old id reply.Locked new = RegisterStep old id (Err MarkedForDestruction) new
ServesRegister old id reply.Full new = RegisterStep old id (Err ExceedsMaxNumberOfNodes) new
ServesRegister old id _ new = ⊥

-- how removing the node's entry of a handle is answered, if there is one
abbrev pub ServesDeregister : Service → Option Handle → Reply → Service → Type 0
ServesDeregister old None reply.NoHandle new = new ≡ old
ServesDeregister old (Some handle) reply.HasOwners new =
    DeregisterStep old handle (Ok nodes.HasOwners) new
ServesDeregister old (Some handle) reply.NoMoreOwners new =
    DeregisterStep old handle (Ok nodes.NoMoreOwners) new
ServesDeregister old (Some handle) reply.PortsAttached new =
    DeregisterStep old handle (Err PortsStillAttached) new
ServesDeregister old (Some handle) reply.NotOwned new =
    DeregisterStep old handle (Err ContainerHandleNotOwnedByContainer) new
ServesDeregister old _ _ new = ⊥

-- what attaching a port does, where the pattern has such ports
abbrev pub Attaches : Service → PortDetails → Result Handle AttachError → Service → Type 0
Attaches old details answer new = HasRole old.pattern (role_of details)
    × AttachStep old details answer new

-- how attaching a port is answered
abbrev pub ServesAdd : Service → PortDetails → Reply → Service → Type 0
ServesAdd old details (reply.Handle handle) new = Attaches old details (Ok handle) new
ServesAdd old details reply.Locked new = Attaches old details (Err ServiceIsLocked) new
ServesAdd old details reply.NotRegistered new = Attaches old details (Err NodeNotRegistered) new
ServesAdd old details reply.Full new = Attaches old details (Err OutOfSpace) new
ServesAdd old details reply.WrongPattern new = LacksRole old.pattern (role_of details) × (new ≡ old)
ServesAdd old details _ new = ⊥

-- how releasing the port of a handle is answered, if there is one
abbrev pub ServesRelease : Service → Option Handle → Reply → Service → Type 0
ServesRelease old None reply.NoHandle new = new ≡ old
ServesRelease old (Some handle) reply.Released new = ReleaseStep old handle (Ok tt) new
ServesRelease old (Some handle) reply.NotOwned new =
    ReleaseStep old handle (Err container.ContainerHandleNotOwnedByContainer) new
ServesRelease old _ _ new = ⊥

-- how a service, which is described so and has answered
-- earlier commands with these handles, answers a command
abbrev pub Serves : Service → Option Description → List (Option Handle) → Command → Reply → Service
    → Type 0
Serves old about handles (command.Register id) r new = ServesRegister old id r new
Serves old about handles (command.Deregister k) r new = ServesDeregister old (named handles k) r new
Serves old about handles command.Nodes r new = ServesNodes old r × (new ≡ old)
Serves old about handles (command.Add details) r new = ServesAdd old details r new
Serves old about handles (command.Release k) r new = ServesRelease old (named handles k) r new
Serves old about handles (command.List role) r new = ServesList old role r × (new ≡ old)
Serves old about handles (command.Count role) r new = ServesCount old role r × (new ≡ old)
Serves old about handles (command.Dead dead cleanup) r new = ServesDead old dead cleanup r new
Serves old about handles (command.Verify required) r new = ServesVerify required about r
    × (new ≡ old)
Serves old about handles (command.Layout part n) r new =
    ServesMessages (ServesLayout n) about part r × (new ≡ old)
Serves old about handles (command.Places part header) r new =
    ServesMessages (ServesPlaces header) about part r × (new ≡ old)
Serves old about handles (command.Compatible part opener) r new =
    ServesMessages (ServesCompatible opener) about part r × (new ≡ old)

-- a service, its description or none, and for each earlier
-- command the handle that it was answered with, or none
pub record State : Type 0 where
  pub service : Service
  pub description : Option Description
  pub handles : List (Option Handle)

-- what is true of every state: the service is one, and no two of the handles are equal
pub record IsState (s : State) : Type 0 where
  pub is_service : IsService s.service
  pub differ : AllPairs Differ s.handles

-- a new service, before any command
abbrev pub new_state : PatternCapacities → ℕ → ℕ → State
new_state capacities max_nodes number =
    record {
      service = fresh_service capacities max_nodes number (2 ^ 64 - 1);
      description = None;
      handles = [];
    }

-- the handle that a reply gives
abbrev pub handle_in : Reply → Option Handle
handle_in (reply.Handle handle) = Some handle
handle_in _ = None

-- from old, the reply may be given to the command, and the state is new afterwards
abbrev pub ServiceStep : State → Command → Reply → State → Type 0
ServiceStep old command reply new =
    Serves old.service old.description old.handles command reply new.service
    × (new ≡ record old { service = new.service; handles = old.handles ++ handle_in reply ∷ [] })
    × IsState new

-- the replies may be given to the commands, one after another
abbrev pub Run : State → List Command → List Reply → State → Type 0
Run old [] [] new = new ≡ old
Run old (command ∷ commands) (reply ∷ replies) new = (mid : State)
    × ServiceStep old command reply mid × Run mid commands replies new
Run old [] (reply ∷ replies) new = ⊥
Run old (command ∷ commands) [] new = ⊥

-- replies were appended, and they are a run of as many of the first commands
pub record Did (old new : State) (commands : List Command)
    (before current : List Reply) : Type 0 where
  pub replies : List Reply
  pub appended : current ≡ before ++ replies
  pub run : Run old (take (length replies) commands) replies new
