-- What a service is.
use Rattle.std.specs.Prelude.{◌≡◌, ◌<◌, ℕ, false, List, [], All}
use Rattle.iox2_dynamic.specs.Prelude.{PatternKind, Role, ContainerState, fresh, Entry, RegistryState, IsRegistry, entries_of, PortDetails}
use Rattle.iox2_config.specs.declared.hash.input.PatternKind.TheVariants as kind
use Rattle.iox2_container.specs.declared.container.handle.Role.TheVariants as role
use Rattle.iox2_dynamic.specs.declared.dynamic_config.settings.MessagingPatternSettings.{MessagingPatternSettings}
use Rattle.iox2_dynamic.specs.declared.dynamic_config.settings.MessagingPatternSettings.TheVariants as settings
use Rattle.iox2_dynamic.specs.Details.{node_of}
use Rattle.iox2_dynamic.specs.Ports.{Ports, IsEither, IsNeither, TakesIn, empty_ports, Side, of_side}

-- the nodes of a service and the ports of its pattern
pub record Service : Type 0 where
  pub pattern : PatternKind
  pub ports : Ports
  pub nodes : ContainerState ℕ

-- what the first ports of a pattern are
abbrev pub first_role : PatternKind → Role
first_role kind.PublishSubscribe = role.Publisher
first_role kind.Event = role.Listener
first_role kind.RequestResponse = role.Server
first_role kind.Blackboard = role.Reader

-- what the second ports of a pattern are
abbrev pub second_role : PatternKind → Role
second_role kind.PublishSubscribe = role.Subscriber
second_role kind.Event = role.Notifier
second_role kind.RequestResponse = role.Client
second_role kind.Blackboard = role.Writer

-- the pattern has ports of the role
abbrev pub HasRole : PatternKind → Role → Type 0
HasRole pattern role = IsEither (first_role pattern) (second_role pattern) role

-- the pattern has no ports of the role
abbrev pub LacksRole : PatternKind → Role → Type 0
LacksRole pattern role = IsNeither (first_role pattern) (second_role pattern) role

-- the role of one kind of ports
abbrev pub role_at : PatternKind → Side → Role
role_at pattern side = of_side side (first_role pattern) (second_role pattern)

-- a pattern, and how many ports of its first and of its second kind there may be at a time
pub record PatternCapacities : Type 0 where
  pub pattern : PatternKind
  pub first : ℕ
  pub second : ℕ

-- what settings say
abbrev pub capacities_in : MessagingPatternSettings → PatternCapacities
capacities_in (settings.PublishSubscribe s) =
    record {
      pattern = kind.PublishSubscribe;
      first = s.number_of_publishers;
      second = s.number_of_subscribers;
    }
capacities_in (settings.Event s) =
    record { pattern = kind.Event; first = s.number_of_listeners; second = s.number_of_notifiers }
capacities_in (settings.RequestResponse s) =
    record {
      pattern = kind.RequestResponse;
      first = s.number_of_servers;
      second = s.number_of_clients;
    }
capacities_in (settings.Blackboard s) =
    record { pattern = kind.Blackboard; first = s.number_of_readers; second = s.number_of_writers }

-- no port yet, for as many as are said
abbrev pub fresh_ports : PatternCapacities → ℕ → ℕ → Ports
fresh_ports c service tickets =
    empty_ports (first_role c.pattern) (second_role c.pattern) service c.first c.second tickets

-- a new service
abbrev pub fresh_service : PatternCapacities → ℕ → ℕ → ℕ → Service
fresh_service c max_nodes service tickets = record {
  pattern = c.pattern;
  ports = fresh_ports c service tickets;
  nodes = fresh service role.Node max_nodes tickets;
}

-- how many entries a node has
abbrev pub entries_of_node : ℕ → RegistryState ℕ → ℕ
entries_of_node id nodes = entries_of (λ i. i) id nodes

-- the node of each of these ports is registered
abbrev pub Registered : RegistryState ℕ → List (Entry PortDetails) → Type 0
Registered nodes ports = All (λ e. 0 < entries_of_node (node_of e.details) nodes) ports

-- a registry of ports of this role: it has the number of the nodes' registry, it is not locked, and
-- the node of each port is registered
pub record IsPortRegistry (nodes : RegistryState ℕ) (role : Role)
    (ports : RegistryState PortDetails) : Type 0 where
  pub is_registry : IsRegistry ports
  pub number_is : ports.service ≡ nodes.service
  pub role_is : ports.role ≡ role
  pub is_open : ports.locked ≡ false
  pub registered : Registered nodes ports.entries

-- the two registries of ports of a pattern
pub record ArePorts (nodes : RegistryState ℕ) (pattern : PatternKind) (p : Ports) : Type 0 where
  pub first : IsPortRegistry nodes (first_role pattern) p.first.registry
  pub second : IsPortRegistry nodes (second_role pattern) p.second.registry

-- what is true of every service
pub record IsService (s : Service) : Type 0 where
  pub nodes_are : IsRegistry s.nodes.registry
  pub role_is : s.nodes.registry.role ≡ role.Node
  pub ports_are : ArePorts s.nodes.registry s.pattern s.ports

-- a port of the role is attached, if its node is registered
abbrev pub TakesPort : Service → Role → Type 0
TakesPort s role =
    (s.nodes.registry.locked ≡ false)
    × TakesIn (first_role s.pattern) (second_role s.pattern) s.ports role

-- there is no port
abbrev pub HasNoPort : Ports → Type 0
HasNoPort p = (p.first.registry.entries ≡ []) × (p.second.registry.entries ≡ [])
