-- Services of which no touch is counted.
use Rattle.std.specs.Prelude.{◌≡◌, Bool, false, true, ℕ}
use Rattle.service_conformance.specs.Prelude.{ContainerState, IsService, PatternKind, PortDetails, Ports, RegistryState, Reply, Service, State, container}
use Rattle.service_descriptions.specs.declared.replay.machine.reply.Reply.TheVariants as reply

-- a registry of which no touch is counted
abbrev pub untouched : {T : Type 0} → RegistryState T → ContainerState T
untouched r = container r 0

-- ports of which no touch is counted
abbrev pub ports_at_rest : RegistryState PortDetails → RegistryState PortDetails → Ports
ports_at_rest first second = record { first = untouched first; second = untouched second }

-- a service of these registries
abbrev pub at_rest : PatternKind → RegistryState ℕ → RegistryState PortDetails
    → RegistryState PortDetails → Service
at_rest pattern nodes first second =
    record { pattern = pattern; ports = ports_at_rest first second; nodes = untouched nodes }

-- the service, but for how often its slots were touched
abbrev pub quiet : Service → Service
quiet s = at_rest s.pattern s.nodes.registry s.ports.first.registry s.ports.second.registry

-- the same of a state
abbrev pub quiet_state : State → State
quiet_state s =
    record { service = quiet s.service; description = s.description; handles = s.handles }

-- a reply reports something of a service, and nothing changes
abbrev pub Reports : Service → (Reply → Type 0) → Reply → Service → Type 0
Reports s Reported r new = Reported r × (new ≡ s)

-- with this reply the steps lead to a service
abbrev pub CanServe : (Reply → Service → Type 0) → Reply → Type 0
CanServe Step r = (new : Service) × Step r new × IsService new

-- the steps with this reply lead to this service alone, but for how often its slots were touched
abbrev pub LeadsTo : (Reply → Service → Type 0) → Reply → Service → Type 0
LeadsTo Step r seen = (new : Service) → Step r new → quiet new ≡ seen

-- whether a reply says that an entry was removed
abbrev pub is_removal : Reply → Bool
is_removal reply.HasOwners = true
is_removal reply.NoMoreOwners = true
is_removal reply.Released = true
is_removal _ = false
