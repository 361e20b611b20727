-- The joining of a service by a node with its first port.
use Rattle.std.specs.Prelude.{◌≡◌, ◌≢◌, ℕ, true, false, Result, Ok, Err}
use Rattle.iox2_container.specs.Steps.{HasRoom, TakesEntry}
use Rattle.iox2_dynamic.specs.declared.dynamic_config.port_details.PortDetails.{PortDetails}
use Rattle.iox2_dynamic.specs.Details.{node_of, role_of}
use Rattle.iox2_dynamic.specs.Service.{HasRole, Service, TakesPort}
use Rattle.iox2_dynamic.specs.Steps.{AttachStep, RegisterStep}
use Rattle.service_examples.specs.declared.join.Joined.{Joined}
use Rattle.service_examples.specs.declared.join.JoinError.{JoinError}
use Rattle.service_examples.specs.declared.join.JoinError.TheVariants.{NoSuchRole, PortOfAnotherNode, ServiceIsLocked, NoRoomForNode, NoRoomForPort}

-- the pattern has such ports, and the port belongs to the node
abbrev pub SuitsNode : Service → ℕ → PortDetails → Type 0
SuitsNode s node port = HasRole s.pattern (role_of port) × (node_of port ≡ node)

-- the first cause for which the node does not join
abbrev pub RefusesToJoin : Service → ℕ → PortDetails → JoinError → Type 0
RefusesToJoin s node port NoSuchRole = ¬ HasRole s.pattern (role_of port)
RefusesToJoin s node port PortOfAnotherNode = HasRole s.pattern (role_of port)
    × (node_of port ≢ node)
RefusesToJoin s node port ServiceIsLocked = SuitsNode s node port × (s.nodes.registry.locked ≡ true)
RefusesToJoin s node port NoRoomForNode =
    SuitsNode s node port × (s.nodes.registry.locked ≡ false) × (¬ HasRoom s.nodes.registry)
RefusesToJoin s node port NoRoomForPort =
    SuitsNode s node port × TakesEntry s.nodes.registry × (¬ TakesPort s (role_of port))

-- the node is registered and then its port is attached, or nothing changes
abbrev pub JoinStep : Service → ℕ → PortDetails → Result Joined JoinError → Service → Type 0
JoinStep old node port (Ok joined) new =
    (node_of port ≡ node)
    × ((between : Service) × RegisterStep old node (Ok joined.node) between
    × AttachStep between port (Ok joined.port) new)
JoinStep old node port (Err why) new = RefusesToJoin old node port why × (new ≡ old)

-- the node may be registered and then its port attached
abbrev pub CanJoin : Service → ℕ → PortDetails → Type 0
CanJoin s node port = (joined : Joined) × (new : Service) × JoinStep s node port (Ok joined) new

-- what is checked before a node joins
abbrev pub MayJoin : Service → ℕ → PortDetails → Type 0
MayJoin s node port = SuitsNode s node port × TakesEntry s.nodes.registry
    × TakesPort s (role_of port)
