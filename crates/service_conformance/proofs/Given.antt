-- What is given of a service that was in use.
use Rattle.service_conformance.proofs.Names.{All, All-cons, All-head, All-nil, All-push, All-weaker, AllPairs, Bool, IfOk, List, OnErr, [], all_pairs_push, ap, arith, false, append-nil, refl, subst, sym, true, ℕ, ◌++◌, ◌<◌, ◌∙◌, ◌∷◌, ◌≡◌, ◌≢◌, ◌≤◌, false_from_ne_true, Becomes, Entry, First, GivesNode, GivesNodes, GivesPort, GivesPorts, IsBefore, IsPortRegistry, IsRegistry, IsService, IsUnused, MayStand, PortDetails, Registered, RegistryState, Role, Second, Service, Side, StandsLast, UsedSo, container, entries_of_node, node_of, ports_at, role_at, role_of, slot_entry, with_last, with_nodes, with_ports, with_used, Result, Ok, Err}
use Rattle.iox2_container.proofs.Counting.{counted, counted-between}
use Rattle.iox2_container.proofs.Lists.{All-back, AllPairs-head, AllPairs-tail}
use Rattle.iox2_dynamic.proofs.Keeping.{with_nodes as other_nodes}
use Rattle.service_conformance.proofs.Taking.{one_side, ports_are}

pub push_some : {X : Type 0} (xs : List X) (y : X) → xs ++ y ∷ [] ≢ []
push_some [] y e = absurd (cc)
push_some (x ∷ xs) y e = absurd (cc)

-- before the last one
all_last : {X : Type 0} (R : X → X → Type 0) (xs : List X) (y : X) → AllPairs R (xs ++ y ∷ [])
    → All (λ x. R x y) xs
all_last {X} R [] y pairs = All-nil (λ (x : X). R x y)
all_last {X} R (x ∷ xs) y pairs =
    All-cons (λ (z : X). R z y) x xs
    (All-head (R x) y [] (All-back (R x) xs (y ∷ []) (AllPairs-head R x (xs ++ y ∷ []) pairs)))
    (all_last R xs y (AllPairs-tail R x (xs ++ y ∷ []) pairs))

all_before : {T : Type 0} (slot ticket : ℕ) (es : List (Entry T)) → All (λ e. e.slot < slot) es
    → All (λ e. e.ticket ≢ ticket) es → All (IsBefore slot ticket) es
all_before slot ticket es p q k d h = record { below = p k d h; other = q k d h }

-- an entry that may stand behind the others makes a registry
pub stands_is : {T : Type 0} (r : RegistryState T) (slot ticket : ℕ) (details : T) → IsRegistry r
    → MayStand r slot ticket → IsRegistry (with_last r (slot_entry slot ticket details))
stands_is {T} r slot ticket details k m =
    let x : Entry T = slot_entry slot ticket details in
    record {
      slots_rise = all_pairs_push (λ (a b : Entry T). a.slot < b.slot) r.entries x k.slots_rise
          (λ i d h. (m.before i d h).below);
      slots_below = All-push (λ (e : Entry T). e.slot < r.capacity) r.entries x k.slots_below
          m.fits;
      tickets_differ = all_pairs_push (λ (a b : Entry T). a.ticket ≢ b.ticket) r.entries x
          k.tickets_differ (λ i d h. (m.before i d h).other);
      tickets_used = All-push (λ (e : Entry T). e.ticket < r.used) r.entries x k.tickets_used
          m.used;
      budget_kept = k.budget_kept;
      locked_is_empty = λ t. (let e : true ≡ false = sym t ∙ m.is_open in absurd (cc));
    }

-- and only such an entry does
pub stands_only : {T : Type 0} (r : RegistryState T) (slot ticket : ℕ) (details : T)
    → IsRegistry (with_last r (slot_entry slot ticket details)) → MayStand r slot ticket
stands_only {T} r slot ticket details k =
    let x : Entry T = slot_entry slot ticket details in
    record {
      is_open = false_from_ne_true r.locked (λ e. push_some r.entries x (k.locked_is_empty e));
      fits = All-head (λ (e : Entry T). e.slot < r.capacity) x []
          (All-back (λ (e : Entry T). e.slot < r.capacity) r.entries (x ∷ []) k.slots_below);
      used = All-head (λ (e : Entry T). e.ticket < r.used) x []
          (All-back (λ (e : Entry T). e.ticket < r.used) r.entries (x ∷ []) k.tickets_used);
      before = all_before slot ticket r.entries
          (all_last (λ (a b : Entry T). a.slot < b.slot) r.entries x k.slots_rise)
          (all_last (λ (a b : Entry T). a.ticket ≢ b.ticket) r.entries x k.tickets_differ);
    }

-- the registry with one more entry, by the fields
pub last_is : {T : Type 0} (s r : RegistryState T) (e : Entry T) (l : List (Entry T)) → s ≡ r
    → l ≡ s.entries ++ e ∷ [] → record s { entries = l } ≡ with_last r e
last_is {T} s r e l same is = grind arith

-- one more node leaves those that are registered
more_of : (id : ℕ) (r : RegistryState ℕ) (x : Entry ℕ)
    → entries_of_node id r ≤ entries_of_node id (with_last r x)
more_of id r x = grind (arith, counted-between, counted, append-nil)

registered_more : (r : RegistryState ℕ) (x : Entry ℕ) (ports : List (Entry PortDetails))
    → Registered r ports → Registered (with_last r x) ports
registered_more r x ports all =
    All-weaker (λ (e : Entry PortDetails). 0 < entries_of_node (node_of e.details) r)
    (λ (e : Entry PortDetails). 0 < entries_of_node (node_of e.details) (with_last r x))
    (λ e h. omega (arith, h, more_of (node_of e.details) r x)) ports all

-- other nodes, where those stay registered that have ports
nodes_is : (s : Service) (r : RegistryState ℕ) → IsService s → IsRegistry r
    → r.service ≡ s.nodes.registry.service → r.role ≡ s.nodes.registry.role
    → ((ports : List (Entry PortDetails)) → Registered s.nodes.registry ports
    → Registered r ports)
    → IsService (with_nodes s r)
nodes_is s r i k number role more =
    other_nodes s (container r s.nodes.touches) k number role
    (more _ i.ports_are.first.registered) (more _ i.ports_are.second.registered) i

-- other ports of one kind
ports_is : (s : Service) (side : Side) (r : RegistryState PortDetails) → IsService s
    → IsPortRegistry s.nodes.registry (role_at s.pattern side) r
    → IsService (with_ports side s r)
ports_is s _ r i p = grind arith

-- and the other way round
ports_only : (s : Service) (side : Side) (r : RegistryState PortDetails)
    → IsService (with_ports side s r)
    → IsPortRegistry s.nodes.registry (role_at s.pattern side) r
ports_only s _ r i = grind arith

-- the same ports leave the service as it is
pub same_ports : (s : Service) (side : Side) → with_ports side s (ports_at s side).registry ≡ s
same_ports s First = refl
same_ports s Second = refl

-- What becomes of a registry becomes of the service in which it is put: the registry becomes the
-- target, which is put there where it is a registry.
module _ {T : Type 0} (put : RegistryState T → Service) (old target : RegistryState T)
    (s : Service) (same : put old ≡ s) (i : IsService s)
    (there : IsRegistry target → IsService (put target))
    (back : IsService (put target) → IsRegistry target) (Is : RegistryState T → Type 0)
    (Gives : Service → Type 0) where
  becomes : {E : Type 0}
      → ((r : RegistryState T) → Is r → ((r ≡ target) × IsRegistry r)
      × ((new : Service) → (new ≡ put target) × IsService new → Gives new))
      → ((new : Service) → Gives new → ((new ≡ put target) × IsService new)
      × ((r : RegistryState T) → (r ≡ target) × IsRegistry r → Is r))
      → (result : Result Bool E) (r : RegistryState T) → IfOk result (λ so. Becomes Is old so r)
      → OnErr result (r ≡ old)
      → IfOk result (λ so. Becomes Gives s so (put r)) × IsService (put r)
  becomes to from (Ok true) r b err = grind arith
  becomes to from (Ok false) r b err =
      let is : put r ≡ s = ap put b.1 ∙ same in (
        (
          λ new g.
              let f = from new g in
              b.0 target (f.1 target (refl, back (subst IsService f.0.0 f.0.1))),
          is,
        ),
        subst IsService (sym is) i,
      )
  becomes to from (Err e) r ok err = (tt, subst IsService (sym (ap put err ∙ same)) i)

module _ (s : Service) (i : IsService s) where
  pub gives_nodes : (used : ℕ) (locked so : Bool) (r : RegistryState ℕ)
      → Becomes (UsedSo s.nodes.registry used locked) s.nodes.registry so r
      → Becomes (GivesNodes s used locked) s so (with_nodes s r) × IsService (with_nodes s r)
  gives_nodes used locked so r b =
      becomes (with_nodes s) s.nodes.registry (with_used s.nodes.registry used locked) s refl i
      (λ k. nodes_is s _ i k refl refl (λ ports all. all)) (λ j. j.nodes_are) _
      (GivesNodes s used locked) {E = Unit {0}}
      (λ r u. ((u.1, u.2), λ new n. (u.0, n.0, n.1)))
      (λ new g. ((g.1, g.2), λ r n. (g.0, n.0, n.1))) (Ok so) r b tt

  pub gives_node : {E : Type 0} (slot ticket id : ℕ) (result : Result Bool E) (r : RegistryState ℕ)
      → IfOk result (λ so.
      Becomes (StandsLast s.nodes.registry (slot_entry slot ticket id)) s.nodes.registry so r)
      → OnErr result (r ≡ s.nodes.registry)
      → IfOk result (λ so. Becomes (GivesNode s slot ticket id) s so (with_nodes s r))
      × IsService (with_nodes s r)
  gives_node slot ticket id =
      let x : Entry ℕ = slot_entry slot ticket id in
      becomes (with_nodes s) s.nodes.registry (with_last s.nodes.registry x) s refl i
      (λ k. nodes_is s _ i k refl refl (registered_more s.nodes.registry x)) (λ j. j.nodes_are) _
      (GivesNode s slot ticket id) (λ r u. (u, λ new n. n)) (λ new g. (g, λ r n. n))

  module _ (side : Side) where
    abbrev now : RegistryState PortDetails
    now = (ports_at s side).registry

    -- what is given of the ports of a role is given of this side
    here : (P : Side → Type 0) (role : Role) → role ≡ role_at s.pattern side
        → ((at : Side) × (role ≡ role_at s.pattern at) × P at) → P side
    here P role at g = subst P (one_side s.pattern side g.0 role at g.1) g.2

    -- other ports of this side, with the same number and role
    ports_stay : (r : RegistryState PortDetails) → IsRegistry r → r.service ≡ now.service
        → r.role ≡ now.role → r.locked ≡ false → Registered s.nodes.registry r.entries
        → IsService (with_ports side s r)
    ports_stay r k number role is_open registered = grind (arith, ports_are, ports_is)

    pub gives_ports : (role : Role) (used : ℕ) (so : Bool) (r : RegistryState PortDetails)
        → role ≡ role_at s.pattern side → Becomes (UsedSo now used false) now so r
        → Becomes (GivesPorts s role used) s so (with_ports side s r)
        × IsService (with_ports side s r)
    gives_ports role used so r at b =
        let target = with_used now used false in
        becomes (with_ports side s) now target s (same_ports s side) i
        (λ k. ports_stay target k refl refl refl (ports_are s side i).registered)
        (λ j. (ports_only s side target j).is_registry) _ (GivesPorts s role used)
        {E = Unit {0}} (λ r u. ((u.1, u.2), λ new n. (side, at, u.0, n.0, n.1)))
        (λ new g.
        let w =
        here (λ z. IsUnused (ports_at s z).registry
        × (new ≡ with_ports z s (with_used (ports_at s z).registry used false)) × IsService new)
        role at (g.0, g.1, (g.2, g.3, g.4)) in
        ((w.1, w.2), λ r n. (w.0, n.0, n.1))) (Ok so) r b tt

    pub gives_port : {E : Type 0} (slot ticket : ℕ) (d : PortDetails) (result : Result Bool E)
        (r : RegistryState PortDetails) → role_of d ≡ role_at s.pattern side
        → 0 < entries_of_node (node_of d) s.nodes.registry
        → IfOk result (λ so. Becomes (StandsLast now (slot_entry slot ticket d)) now so r)
        → OnErr result (r ≡ now)
        → IfOk result (λ so. Becomes (GivesPort s slot ticket d) s so (with_ports side s r))
        × IsService (with_ports side s r)
    gives_port slot ticket d result r at has =
        let x : Entry PortDetails = slot_entry slot ticket d in
        let target = with_last now x in
        becomes (with_ports side s) now target s (same_ports s side) i
        (λ k. ports_stay target k refl refl (ports_are s side i).is_open
        (All-push (λ (e : Entry PortDetails). 0 < entries_of_node (node_of e.details)
        s.nodes.registry) now.entries x (ports_are s side i).registered has))
        (λ j. (ports_only s side target j).is_registry) _ (GivesPort s slot ticket d)
        (λ r u. (u, λ new n. (side, at, n.0, n.1)))
        (λ new g. (
          here (λ z. (new ≡ with_ports z s (with_last (ports_at s z).registry x)) × IsService new)
              (role_of d) at (g.0, g.1, (g.2, g.3)),
          λ r n. n,
        )) result r

  -- a port of a node that is not registered
  pub no_node : (slot ticket : ℕ) (d : PortDetails)
      → (¬ (0 < entries_of_node (node_of d) s.nodes.registry)) → (new : Service)
      → ¬ (GivesPort s slot ticket d new)
  no_node slot ticket d none new g =
      let x = slot_entry slot ticket d in
      let p =
      ports_only s g.0 (with_last (ports_at s g.0).registry x)
      (subst (λ (x : Service). IsService x) g.2 g.3) in
      let has : 0 < entries_of_node (node_of d) s.nodes.registry =
      All-head
      (λ (e : Entry PortDetails). 0 < entries_of_node (node_of e.details) s.nodes.registry) x []
      (All-back
      (λ (e : Entry PortDetails). 0 < entries_of_node (node_of e.details) s.nodes.registry)
      (ports_at s g.0).registry.entries (x ∷ []) p.registered) in
      none has
