-- The two registries of ports, and steps of a service, by the registry that takes them.
use Rattle.service_conformance.proofs.Names.{ap, ℕ, ◌≡◌, Changes, ContainerState, First, IsRegistry, OnSide, PortDetails, RegistryState, Role, Second, Service, Side, at_rest, first_role, of_side, other_side, ports_at, quiet, role_at, second_role, arith, inl, inr, refl, suc, zero, ◌<◌, Handle, IsEither, IsNeither, IsPortRegistry, IsService, MayGive, MayGiveIn, PatternKind, Ports, part_at, with_ports_at, ◌⊎◌}
use Rattle.iox2_config.specs.declared.hash.input.PatternKind.TheVariants as kind
use Rattle.iox2_container.specs.declared.container.handle.Role.TheVariants as role
use Rattle.iox2_dynamic.proofs.Rooms.{roles_differ}

pub positive : (n : ℕ) → (n ≡ 0 → ⊥) → 0 < n
positive zero h = absurd (h refl)
positive (suc n) h = omega arith

-- a role is that of one side
pub one_side : (p : PatternKind) (side at : Side) (role : Role) → role ≡ role_at p side
    → role ≡ role_at p at → at ≡ side
one_side p _ _ role e f = grind (arith, roles_differ)

pub has_role : (p : PatternKind) (side : Side) (role : Role) → role ≡ role_at p side
    → IsEither (first_role p) (second_role p) role
has_role p _ role e = grind arith

pub lacks : (p : PatternKind) (role : Role) → IsNeither (first_role p) (second_role p) role
    → IsEither (first_role p) (second_role p) role → ⊥
lacks p role n (inl e) = n.0 e
lacks p role n (inr e) = n.1 e

-- a role is that of the first ports, of the second ones, or of none
pub known_role : (p : PatternKind) (r : Role)
    → IsEither (first_role p) (second_role p) r ⊎ IsNeither (first_role p) (second_role p) r
known_role kind.PublishSubscribe role.Publisher = inl (inl refl)
known_role kind.PublishSubscribe role.Subscriber = inl (inr refl)
known_role kind.Event role.Listener = inl (inl refl)
known_role kind.Event role.Notifier = inl (inr refl)
known_role kind.RequestResponse role.Server = inl (inl refl)
known_role kind.RequestResponse role.Client = inl (inr refl)
known_role kind.Blackboard role.Reader = inl (inl refl)
known_role kind.Blackboard role.Writer = inl (inr refl)
known_role _ _ = inr (λ e. cc, λ e. cc)

pub ports_are : (s : Service) (side : Side) → IsService s
    → IsPortRegistry s.nodes.registry (role_at s.pattern side) (ports_at s side).registry
ports_are s _ i = grind arith

pub given_at : (s : Service) (side : Side) (h : Handle) → MayGive (ports_at s side).registry h
    → MayGiveIn s (part_at side) h
given_at s _ h m = grind arith

pub may_give_at : (s : Service) (side : Side) (h : Handle) → MayGiveIn s (part_at side) h
    → MayGive (ports_at s side).registry h
may_give_at s _ h m = grind arith

-- a step of one registry
pub steps_at : (p : PatternKind) (side : Side) (old : Ports) (role : Role)
    (Step : ContainerState PortDetails → ContainerState PortDetails → Type 0)
    (new : ContainerState PortDetails) → role ≡ role_at p side
    → Step (of_side side old.first old.second) new
    → OnSide (first_role p) (second_role p) old role Step (with_ports_at side old new)
steps_at p First old role Step new e s =
    record { side = First; role_is = e; step = s; others = refl }
steps_at p Second old role Step new e s =
    record { side = Second; role_is = e; step = s; others = refl }

-- a registry of a service: that of its nodes, or of one kind of its ports
pub data Place : Type 0 where
  of_nodes : Place
  of_ports : Side → Place

abbrev pub Item : Place → Type 0
Item of_nodes = ℕ
Item (of_ports side) = PortDetails

abbrev pub with_nodes : Service → RegistryState ℕ → Service
with_nodes s nodes = at_rest s.pattern nodes s.ports.first.registry s.ports.second.registry

-- a service with another registry of one kind of ports
abbrev pub at_side : Side → Service → RegistryState PortDetails → Service
at_side side s m =
    at_rest s.pattern s.nodes.registry (of_side side m s.ports.first.registry)
    (of_side side s.ports.second.registry m)

-- those are its ports of this kind then
pub its_ports : (side : Side) (s : Service) (n : RegistryState PortDetails)
    → (ports_at (at_side side s n) side).registry ≡ n
its_ports First s n = refl
its_ports Second s n = refl

-- the registry in a place, and the service with another one there
abbrev pub registry_at : (p : Place) → Service → RegistryState (Item p)
registry_at of_nodes s = s.nodes.registry
registry_at (of_ports side) s = (ports_at s side).registry

abbrev pub with_at : (p : Place) → Service → RegistryState (Item p) → Service
with_at of_nodes s r = with_nodes s r
with_at (of_ports side) s r = at_side side s r

-- the registry in a place takes a step
pub record Takes (p : Place) (Step : RegistryState (Item p) → RegistryState (Item p) → Type 0)
    (s t : Service) : Type 0 where
  pub registry : RegistryState (Item p)
  pub step : Step (registry_at p s) registry
  pub whole : IsRegistry registry
  pub left : t ≡ with_at p s registry

-- the ports of one kind take a step
abbrev pub TakesPorts : (RegistryState PortDetails → RegistryState PortDetails → Type 0) → Service
    → Service → Type 0
TakesPorts Step s t = (side : Side) × Takes (of_ports side) Step s t

pub nodes_taken : (Step : RegistryState ℕ → RegistryState ℕ → Type 0) (s w : Service)
    → Changes Step s.nodes w.nodes → w ≡ record s { nodes = w.nodes }
    → Takes of_nodes Step s (quiet w)
nodes_taken Step s w c e =
    record { registry = w.nodes.registry; step = c.step; whole = c.kept; left = ap quiet e }

module _ (Step : RegistryState PortDetails → RegistryState PortDetails → Type 0) (role : Role)
    (s w : Service)
    (a : OnSide (first_role s.pattern) (second_role s.pattern) s.ports role
    (λ o n. Changes Step o n) w.ports) (is : w ≡ record s { ports = w.ports }) where
  -- the ports of one kind have changed, and no node came or went
  by_ports : (side : Side)
      → of_side (other_side side) w.ports.first w.ports.second
      ≡ of_side (other_side side) s.ports.first s.ports.second
      → quiet w ≡ at_side side s (ports_at w side).registry
  by_ports First o = grind arith
  by_ports Second o = grind arith

  pub ports_taken : Takes (of_ports a.side) Step s (quiet w)
  ports_taken = grind (arith, by_ports)

  -- they are those of the role
  pub taken_at : (side : Side) → role ≡ role_at s.pattern side
      → Takes (of_ports side) Step s (quiet w)
  taken_at side at = grind (arith, one_side, ports_taken)
