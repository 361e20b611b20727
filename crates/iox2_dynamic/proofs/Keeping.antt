-- What keeps a service one: a new one, and when nodes come and go, when ports do, and when a dead
-- node goes.
use Rattle.iox2_dynamic.proofs.Names.{PatternKind, Role, ContainerState, fresh, Entry, RegistryState, IsRegistry, PortDetails, node_of, Ports, IsService, IsPortRegistry, ArePorts, PatternCapacities, entries_of_node, first_role, second_role, fresh_ports, fresh_service, ContainerAddFailure, IsLocked, OutOfSpace, LockIfLastIndex, Handle, Adds, AddStep, InsertsOne, Leaves, HasEntry, is_of, Service, HasNoPort, Registered, has_ports_of, is_last_of_ports, Default, ReleaseState, Removes, RemoveStep, role_of, AddsTo, RemovesFrom, Side, of_side, other_side, First, Second, HasRole, LacksRole, AttachStep, AttachesTo, AttachError, ServiceIsLocked, NodeNotRegistered, NoSpace, UniquePortId, is_leaving, release_state, staying, DeregisterNodeState, PortCleanupAction, RecoversPorts, RecoversNodes, RecoversBoth, NodesAfter}
use Rattle.std.proofs.Common.{◌≡◌, ℕ, ◌<◌, refl, ◌∙◌, Bool, true, false, List, [], ◌∷◌, Result, Ok, Err, inl, inr, sym, ap, subst, arith, get_or, Option, Some, None}
use Rattle.std.proofs.lemmas.List.Elements.{All-nil, All-head, All-weaker, All-filter}
use Rattle.iox2_container.proofs.Keeping.{new_is_registry, All-gain, All-loss}
use Rattle.std.specs.Prelude.{All, IsTrue, ◌==◌, nat_eq, nat_lt, ◌&&◌, ◌||◌, IfSome, IfNone, not}
use Rattle.std.proofs.lemmas.Bool.{cases_order}
use Rattle.std.proofs.lemmas.Bool.Decides.{nat_tests}
use Rattle.iox2_container.proofs.Counting.{counted, counted-InsertsOne, All-other, counted-staying}
use Rattle.iox2_container.proofs.Histories.{grows_add}
use Rattle.iox2_container.proofs.Lists.{one_by_ticket}
use Rattle.iox2_container.specs.declared.container.registry.ContainerRemoveError.{ContainerRemoveError}
use Rattle.iox2_dynamic.specs.declared.dynamic_config.answers.DeregisterNodeState.TheVariants.{HasOwners}
use Rattle.iox2_dynamic.specs.Steps.{state_of}
use Rattle.iox2_container.specs.declared.container.handle.Role.TheVariants as role

fresh_registry : {T : Type 0} (service : ℕ) (role : Role) (capacity tickets : ℕ)
    → IsRegistry (fresh {T = T} service role capacity tickets).registry
fresh_registry {T} service role capacity tickets =
    new_is_registry (fresh {T = T} service role capacity tickets).registry (refl, refl, refl)

no_ports : (nodes : RegistryState ℕ) (role : Role) (capacity tickets : ℕ)
    → IsPortRegistry nodes role
    (fresh {T = PortDetails} nodes.service role capacity tickets).registry
no_ports nodes role capacity tickets = record {
  is_registry = fresh_registry nodes.service role capacity tickets;
  number_is = refl;
  role_is = refl;
  is_open = refl;
  registered = All-nil (λ (e : Entry PortDetails). 0 < entries_of_node (node_of e.details) nodes);
}

fresh_are_ports : (nodes : RegistryState ℕ) (c : PatternCapacities) (tickets : ℕ)
    → ArePorts nodes c.pattern (fresh_ports c nodes.service tickets)
fresh_are_ports nodes c tickets =
    record {
      first = no_ports nodes (first_role c.pattern) c.first tickets;
      second = no_ports nodes (second_role c.pattern) c.second tickets;
    }

pub fresh_is_service : (c : PatternCapacities) (max_nodes service tickets : ℕ)
    → IsService (fresh_service c max_nodes service tickets)
fresh_is_service c max_nodes service tickets =
    let nodes : ContainerState ℕ = fresh service role.Node max_nodes tickets in
    record {
      nodes_are = fresh_registry service role.Node max_nodes tickets;
      role_is = refl;
      ports_are = fresh_are_ports nodes.registry c tickets;
    }

pub new_service : (c : PatternCapacities) (max_nodes service tickets : ℕ)
    (pattern : PatternKind) (ports : Ports) (nodes : ContainerState ℕ)
    → pattern ≡ c.pattern → ports ≡ fresh_ports c service tickets
    → nodes ≡ fresh service role.Node max_nodes tickets
    → IsService (record { pattern = pattern; ports = ports; nodes = nodes })
new_service c max_nodes service tickets pattern ports nodes k p n =
    rw (k, p, n) (fresh_is_service c max_nodes service tickets)

pub not_false : true ≡ false → ⊥
not_false e = (cc)

-- registered nodes stay so when one is added
registered_add : (old new : RegistryState ℕ) (d : ℕ) (answer : Result Handle ContainerAddFailure)
    (ports : List (Entry PortDetails)) → AddStep old d answer new → Registered old ports
    → Registered new ports
registered_add old new d (Err IsLocked) ports a h = rw a.1 h
registered_add old new d (Err OutOfSpace) ports a h = rw a.2 h
registered_add old new d (Ok handle) ports a h =
    let x : Entry ℕ = record { slot = handle.slot; ticket = old.used; details = d } in
    All-weaker (λ (e : Entry PortDetails). 0 < entries_of_node (node_of e.details) old)
    (λ (e : Entry PortDetails). 0 < entries_of_node (node_of e.details) new)
    (λ e l. omega (
      arith,
      counted-InsertsOne
          (is_of (λ i. i) (node_of e.details)) old.entries new.entries x a.2.2,
    )) ports h

-- a service with other nodes
pub with_nodes : (s : Service) (nodes : ContainerState ℕ) → IsRegistry nodes.registry
    → nodes.registry.service ≡ s.nodes.registry.service
    → nodes.registry.role ≡ s.nodes.registry.role
    → Registered nodes.registry s.ports.first.registry.entries
    → Registered nodes.registry s.ports.second.registry.entries → IsService s
    → IsService (record s { nodes = nodes })
with_nodes s nodes k number role first second i =
    let beside : (r : Role) (ports : RegistryState PortDetails)
    → Registered nodes.registry ports.entries → IsPortRegistry s.nodes.registry r ports
    → IsPortRegistry nodes.registry r ports =
    λ r ports registered p.
    record {
      is_registry = p.is_registry;
      number_is = p.number_is ∙ sym number;
      role_is = p.role_is;
      is_open = p.is_open;
      registered = registered;
    } in
    record {
      nodes_are = k;
      role_is = role ∙ i.role_is;
      ports_are = record {
        first = beside (first_role s.pattern) s.ports.first.registry first i.ports_are.first;
        second = beside (second_role s.pattern) s.ports.second.registry second i.ports_are.second;
      };
    }

pub register_kept : (s : Service) (nodes : ContainerState ℕ) (d : ℕ)
    (answer : Result Handle ContainerAddFailure) → Adds s.nodes d answer nodes → IsService s
    → IsService (record s { nodes = nodes })
register_kept s nodes d answer a i =
    let g = grows_add s.nodes.registry d answer nodes.registry a.step in
    let stay : (ports : List (Entry PortDetails)) → Registered s.nodes.registry ports
    → Registered nodes.registry ports =
    λ ports h. registered_add s.nodes.registry nodes.registry d answer ports a.step h in
    with_nodes s nodes a.kept g.service g.role (stay _ i.ports_are.first.registered)
    (stay _ i.ports_are.second.registered) i

-- where the last entry of a node goes only if no port has it, the nodes of these ports stay
still : (old new : List (Entry ℕ)) (x : Entry ℕ) → InsertsOne new old x
    → (ports : List (Entry PortDetails))
    → (counted (is_of (λ i. i) x.details) old ≡ 1 → counted (is_of node_of x.details) ports ≡ 0)
    → All (λ e. 0 < counted (is_of (λ i. i) (node_of e.details)) old) ports
    → All (λ e. 0 < counted (is_of (λ i. i) (node_of e.details)) new) ports
still old new x g ports last h k d l =
    let id = node_of (get_or ports k d).details in
    let was : 0 < counted (is_of (λ i. i) id) old = h k d l in
    let n = counted-InsertsOne (is_of (λ i. i) id) new old x g in
    let other : counted (is_of (λ i. i) x.details) old ≡ 1 → (id == x.details) ≡ false =
    λ one. All-other (is_of node_of x.details) ports (last one) k d l in
    elim (cases_order x.details id) as (λ _. 0 < counted (is_of (λ i. i) id) new) [
      | inl v ↦
          let same : counted (is_of (λ i. i) x.details) old ≡ counted (is_of (λ i. i) id) old =
          ap (λ (k : ℕ). counted (λ (i : ℕ). i == k) old) v in
          grind (arith, nat_tests, was, n, other, v, same)
      | inr v ↦ grind (arith, nat_tests, was, n, v)
    ]

pub both_none : (a b : ℕ) → (nat_lt 0 a || nat_lt 0 b) ≡ false → (a ≡ 0) × (b ≡ 0)
both_none a b h = (grind (arith, nat_tests, h), grind (arith, nat_tests, h))

none_of : (n a b : ℕ) → (nat_eq n 1 && (nat_lt 0 a || nat_lt 0 b)) ≡ false → n ≡ 1 → (a ≡ 0)
    × (b ≡ 0)
none_of n a b h e = both_none a b (grind (arith, nat_tests, h, e))

pub leaving_kept : (s : Service) (nodes : ContainerState ℕ) (handle : Handle) (id : ℕ)
    → HasEntry s.nodes.registry handle id → is_last_of_ports id s ≡ false
    → Leaves s.nodes.registry handle LockIfLastIndex nodes.registry → IsRegistry nodes.registry
    → IsService s → IsService (record s { nodes = nodes })
leaving_kept s nodes handle id stands last gone k i =
    let x : Entry ℕ = gone.0 in
    let y : Entry ℕ = stands.0 in
    let tickets : x.ticket ≡ y.ticket = ap (λ (h : Handle). h.ticket) (sym gone.1 ∙ stands.1) in
    let same : y ≡ x =
    one_by_ticket _ _ _ x y i.nodes_are.tickets_differ gone.2 stands.3.1 tickets in
    let its : id ≡ x.details = sym stands.2 ∙ ap (λ (e : Entry ℕ). e.details) same in
    let none =
    none_of (counted (is_of (λ i. i) x.details) s.nodes.registry.entries)
    (counted (is_of node_of x.details) s.ports.first.registry.entries)
    (counted (is_of node_of x.details) s.ports.second.registry.entries)
    (subst (λ d. is_last_of_ports d s ≡ false) its last) in
    with_nodes s nodes k (ap (λ (r : RegistryState ℕ). r.service) gone.3)
    (ap (λ (r : RegistryState ℕ). r.role) gone.3)
    (still _ _ x gone.2 _ (λ e. (none e).0) i.ports_are.first.registered)
    (still _ _ x gone.2 _ (λ e. (none e).1) i.ports_are.second.registered) i

-- where no node is left, no port is
no_port : (nodes : RegistryState ℕ) (ports : List (Entry PortDetails)) → nodes.entries ≡ []
    → Registered nodes ports → ports ≡ []
no_port nodes [] e h = refl
no_port nodes (p ∷ ports) e h =
    let one : 0 < entries_of_node (node_of p.details) nodes =
    All-head (λ (e : Entry PortDetails). 0 < entries_of_node (node_of e.details) nodes) p ports
    h in
    let none : entries_of_node (node_of p.details) nodes ≡ 0 =
    ap (counted (is_of (λ i. i) (node_of p.details))) e in
    absurd (omega arith)

pub locked_has_no_port : (s : Service) → IsService s → IsTrue s.nodes.registry.locked
    → HasNoPort s.ports
locked_has_no_port s i t =
    let none = i.nodes_are.locked_is_empty t in (
      no_port s.nodes.registry _ none i.ports_are.first.registered,
      no_port s.nodes.registry _ none i.ports_are.second.registered,
    )

pub unlocked : (b : Bool) → (IsTrue b → ⊥) → b ≡ false
unlocked true n = absurd (n refl)
unlocked false n = refl

-- where some port has a node, the service is not locked
pub ports_open : (s : Service) (id : ℕ) → IsService s → has_ports_of id s.ports ≡ true
    → s.nodes.registry.locked ≡ false
ports_open s id i h =
    unlocked s.nodes.registry.locked (λ t.
    let none = locked_has_no_port s i t in
    not_false (sym (rw none.1 at (rw none.0 at h))))

module _ (nodes : RegistryState ℕ) (role : Role) where
  -- ports of which only the entries and the used tickets are others
  other_entries : {es : List (Entry PortDetails)} {u : ℕ} (old new : RegistryState PortDetails)
      → new ≡ record old { entries = es; used = u } → IsRegistry new
      → Registered nodes new.entries → IsPortRegistry nodes role old
      → IsPortRegistry nodes role new
  other_entries old new e k registered p = record {
    is_registry = k;
    number_is = ap (λ (r : RegistryState PortDetails). r.service) e ∙ p.number_is;
    role_is = ap (λ (r : RegistryState PortDetails). r.role) e ∙ p.role_is;
    is_open = ap (λ (r : RegistryState PortDetails). r.locked) e ∙ p.is_open;
    registered = registered;
  }

  added : (old new : RegistryState PortDetails) (d : PortDetails)
      (answer : Result Handle ContainerAddFailure) → 0 < entries_of_node (node_of d) nodes
      → AddStep old d answer new → IsRegistry new → IsPortRegistry nodes role old
      → IsPortRegistry nodes role new
  added old new d (Ok handle) l a k p =
      let x : Entry PortDetails = record { slot = handle.slot; ticket = old.used; details = d } in
      other_entries old new a.2.3 k
      (All-gain (λ e. 0 < entries_of_node (node_of e.details) nodes) old.entries new.entries x
      a.2.2 p.registered l) p
  added old new d (Err IsLocked) l a k p = rw a.1 p
  added old new d (Err OutOfSpace) l a k p = rw a.2 p

  removed : (old new : RegistryState PortDetails) (handle : Handle)
      (answer : Result ReleaseState ContainerRemoveError)
      → RemoveStep old handle Default answer new → IsRegistry new → IsPortRegistry nodes role old
      → IsPortRegistry nodes role new
  removed old new handle (Ok state) a k p =
      other_entries old new a.0.3 k
      (All-loss (λ e. 0 < entries_of_node (node_of e.details) nodes) new.entries old.entries a.0.0
      a.0.2 p.registered) p
  removed old new handle (Err why) a k p = rw a.1 p

-- a step of one side that keeps it a registry of ports
on_side : (side : Side) (nodes : RegistryState ℕ) (kind : PatternKind) (old new : Ports)
    (Step : ContainerState PortDetails → ContainerState PortDetails → Type 0)
    → ((role : Role) (o n : ContainerState PortDetails) → Step o n
    → IsPortRegistry nodes role o.registry → IsPortRegistry nodes role n.registry)
    → Step (of_side side old.first old.second) (of_side side new.first new.second)
    → of_side (other_side side) new.first new.second
    ≡ of_side (other_side side) old.first old.second
    → ArePorts nodes kind old → ArePorts nodes kind new
on_side First nodes kind old new Step keeps step others p = record {
  first = keeps (first_role kind) old.first new.first step p.first;
  second = rw others p.second;
}
on_side Second nodes kind old new Step keeps step others p = record {
  first = rw others p.first;
  second = keeps (second_role kind) old.second new.second step p.second;
}

-- a service of the same pattern with other ports
pub with_ports : (s : Service) (kind : PatternKind) (ports : Ports) → kind ≡ s.pattern → IsService s
    → ArePorts s.nodes.registry s.pattern ports
    → IsService (record s { pattern = kind; ports = ports })
with_ports s kind ports k i p = record {
  nodes_are = i.nodes_are;
  role_is = i.role_is;
  ports_are = rw k p;
}

-- what adding a port of a registered node keeps
added_kept : (s : Service) (ports : Ports) (d : PortDetails)
    (answer : Result Handle ContainerAddFailure) → 0 < entries_of_node (node_of d) s.nodes.registry
    → AddsTo (first_role s.pattern) (second_role s.pattern) s.ports d answer ports → IsService s
    → IsService (record s { ports = ports })
added_kept s ports d answer l a i =
    let nodes = s.nodes.registry in
    with_ports s s.pattern ports refl i
    (on_side a.side nodes s.pattern s.ports ports (λ o n. Adds o d answer n)
    (λ role o n c p. added nodes role o.registry n.registry d answer l c.step c.kept p)
    a.step a.others i.ports_are)

-- what attaching a port keeps
pub attach_kept : (old new : Service) (d : PortDetails) (answer : Result Handle AttachError)
    → AttachStep old d answer new → IsService old → IsService new
attach_kept old new d (Ok handle) a i =
    rw a.1.1 (added_kept old new.ports d (Ok handle) a.0.1 a.1.0 i)
attach_kept old new d (Err ServiceIsLocked) a i = rw a.1 i
attach_kept old new d (Err NodeNotRegistered) a i = rw a.2 i
attach_kept old new d (Err NoSpace) a i =
    rw a.1.1 (added_kept old new.ports d (Err OutOfSpace) a.0.1 a.1.0 i)

-- what attaching a port of whatever role keeps
pub attached_kept : (s : Service) (kind : PatternKind) (ports : Ports) (d : PortDetails)
    (answer : Option (Result Handle AttachError)) → kind ≡ s.pattern
    → IfSome answer (λ r. HasRole s.pattern (role_of d)
    × AttachesTo (first_role s.pattern) (second_role s.pattern) s.nodes s.ports d r ports)
    → IfNone answer (LacksRole s.pattern (role_of d) × (ports ≡ s.ports)) → IsService s
    → IsService (record s { pattern = kind; ports = ports })
attached_kept s kind ports d None k some none i =
    with_ports s kind ports k i (rw none.1 i.ports_are)
attached_kept s kind ports d (Some r) k some none i =
    rw k (attach_kept s (record s { ports = ports }) d r (some.1 s.pattern refl refl i) i)

-- what releasing a port keeps
pub release_kept : (s : Service) (kind : PatternKind) (ports : Ports) (handle : Handle)
    (answer : Result ReleaseState ContainerRemoveError) → kind ≡ s.pattern
    → RemovesFrom (first_role s.pattern) (second_role s.pattern) s.ports handle answer ports
    → IsService s → IsService (record s { pattern = kind; ports = ports })
release_kept s kind ports handle answer k (inl a) i =
    let nodes = s.nodes.registry in
    with_ports s kind ports k i
    (on_side a.side nodes s.pattern s.ports ports (λ o n. Removes o handle Default answer n)
    (λ role o n c p. removed nodes role o.registry n.registry handle answer c.step c.kept p)
    a.step a.others i.ports_are)
release_kept s kind ports handle answer k (inr a) i =
    with_ports s kind ports k i (rw a.2 i.ports_are)

-- the ports that are left
module _ {F : Type 0} (calls : F → UniquePortId → PortCleanupAction → F → Type 0) (dead : ℕ)
    (nodes : RegistryState ℕ) where
  left : (role : Role) (old : ContainerState PortDetails) (f : F) (new : ContainerState PortDetails)
      (h : F) → RecoversPorts calls dead old f new h → IsPortRegistry nodes role old.registry
      → IsPortRegistry nodes role new.registry
  left role old f new h r p =
      let is = r.1.step.recovers.0 in
      other_entries nodes role old.registry new.registry is r.1.kept
      (subst (Registered nodes) (sym (ap (λ (r : RegistryState PortDetails). r.entries) is))
      (All-filter (λ e. not (is_leaving (is_of node_of dead) r.1.step.marked e))
      (λ e. 0 < counted (is_of (λ i. i) (node_of e.details)) nodes.entries)
      old.registry.entries p.registered)) p

  all_left : (kind : PatternKind) (old : Ports) (f : F) (new : Ports) (h : F)
      → RecoversBoth calls dead old f new h → ArePorts nodes kind old → ArePorts nodes kind new
  all_left kind old f new h r p =
      record {
        first = left (first_role kind) old.first f new.first r.0 r.1 p.first;
        second = left (second_role kind) old.second r.0 new.second h r.2 p.second;
      }

others : (dead other : ℕ) → (other == dead) ≡ false → (d : ℕ) → (d == dead) ≡ true
    → (d == other) ≡ false
others dead other n d e = grind (arith, nat_tests, n, e)

still_there : (dead : ℕ) (nodes : List (Entry ℕ)) (marked : ℕ → Bool)
    (ports : List (Entry PortDetails)) → All (λ e. is_of node_of dead e.details ≡ false) ports
    → All (λ e. 0 < counted (is_of (λ i. i) (node_of e.details)) nodes) ports
    → All (λ e. 0
    < counted (is_of (λ i. i) (node_of e.details))
    (staying (is_of (λ i. i) dead) marked nodes)) ports
still_there dead nodes marked ports n h k d l =
    let id = node_of (get_or ports k d).details in
    let was : 0 < counted (is_of (λ i. i) id) nodes = h k d l in
    let same =
    counted-staying (is_of (λ i. i) id) (is_of (λ i. i) dead) (others dead id (n k d l)) marked
    nodes in
    omega arith

-- the nodes stay, where a port of the dead node is left, since then they are not locked
pub nodes_stay : (dead : ℕ) (b : Bool) (old : ContainerState ℕ) → b ≡ true
    → old.registry.locked ≡ false → NodesAfter dead b old (state_of HasOwners) old
nodes_stay dead b old e unlocked = rw e (sym (ap release_state unlocked), refl)

pub nodes_after : (dead : ℕ) (b : Bool) (old : ContainerState ℕ) (state : ReleaseState)
    (answer : DeregisterNodeState) (new : ContainerState ℕ) → b ≡ false
    → state ≡ state_of answer → RecoversNodes dead old state new
    → NodesAfter dead b old (state_of answer) new
nodes_after dead b old state answer new e f r = rw e (rw f at r)

-- where a port of the dead node is left
pub skipped_kept : {F : Type 0} (calls : F → UniquePortId → PortCleanupAction → F → Type 0)
    (s : Service) (f : F) (dead : ℕ) (kind : PatternKind) (ports : Ports) (h : F)
    → kind ≡ s.pattern → RecoversBoth calls dead s.ports f ports h → IsService s
    → IsService (record s { pattern = kind; ports = ports })
skipped_kept calls s f dead kind ports h k r i =
    with_ports s kind ports k i
    (all_left calls dead s.nodes.registry s.pattern s.ports f ports h r i.ports_are)

-- where none is left
pub dead_kept : {F : Type 0} (calls : F → UniquePortId → PortCleanupAction → F → Type 0)
    (s : Service) (f : F) (dead : ℕ) (kind : PatternKind) (ports : Ports) (h : F)
    (state : ReleaseState) (nodes : ContainerState ℕ) → kind ≡ s.pattern
    → RecoversBoth calls dead s.ports f ports h → has_ports_of dead ports ≡ false
    → RecoversNodes dead s.nodes state nodes → IsService s
    → IsService (record s { pattern = kind; ports = ports; nodes = nodes })
dead_kept calls s f dead kind ports h state nodes k r none n i =
    let a = skipped_kept calls s f dead kind ports h k r i in
    let z = both_none _ _ none in
    let is : nodes.registry.entries
    ≡ staying (is_of (λ i. i) dead) n.step.marked s.nodes.registry.entries =
    ap (λ (r : RegistryState ℕ). r.entries) n.step.recovers.0 in
    let stay : (l : List (Entry PortDetails)) → counted (is_of node_of dead) l ≡ 0
    → Registered s.nodes.registry l → Registered nodes.registry l =
    λ l none h. subst
    (λ (n : List (Entry ℕ)). All
    (λ e. 0 < counted (is_of (λ i. i) (node_of e.details)) n) l) (sym is)
    (still_there dead s.nodes.registry.entries n.step.marked l
    (All-other (is_of node_of dead) l none) h) in
    with_nodes (record s { pattern = kind; ports = ports }) nodes n.kept
    (ap (λ (r : RegistryState ℕ). r.service) n.step.recovers.0)
    (ap (λ (r : RegistryState ℕ). r.role) n.step.recovers.0)
    (stay _ z.0 a.ports_are.first.registered) (stay _ z.1 a.ports_are.second.registered) a
