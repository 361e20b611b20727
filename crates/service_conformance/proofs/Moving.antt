-- Calls that can be made before others, by two changes of which the second is made first.
use Rattle.service_conformance.proofs.Names.{List, ap, arith, ne_eqb, refl, subst, sym, true, ℕ, ◌<◌, ◌∙◌, ◌≡◌, ◌≢◌, ◌≤◌, Call, CallStep, Change, ChangesAt, Handle, HasNumber, IsChange, IsService, Judged, JudgedStep, LockIfLastIndex, Look, MovesBefore, MovesBeforeCall, CanPrecede, PortDetails, RegistryState, Role, Service, Unlocked, Watched, WindowStep, call, entries_of_node, has_ports_of, is_of, looks_after, watched, Default}
use Rattle.iox2_container.proofs.Counting.{counted-InsertsOne, one_if}
use Rattle.service_conformance.specs.declared.conformance.mover.Change.TheVariants as change
use Rattle.service_conformance.proofs.Judged.{one_call}
use Rattle.service_conformance.proofs.Looking.{looks_between, looks_twice}
use Rattle.service_conformance.proofs.MovingParts.{Exchange, nodes_first, others_first, ports_first, ports_swap, removals_swap, roles_apart}
use Rattle.service_conformance.proofs.Taking.{Takes, TakesPorts}
use Rattle.service_conformance.proofs.Taking.Place.{of_nodes}
use Rattle.service_conformance.proofs.MovingSteps.{Addition, Fits, Made, May, NodeRemoval, PortRemoval, does, fits, has_node, leaves_service}

-- a node has as many entries at least where one is not yet removed
fewer : (h : Handle) (s t : Service) (node : ℕ) → Takes of_nodes (NodeRemoval h) s t
    → entries_of_node node t.nodes.registry ≤ entries_of_node node s.nodes.registry
fewer h s t node a =
    let n : RegistryState ℕ = a.registry in
    let left : entries_of_node node t.nodes.registry ≡ entries_of_node node n =
    ap (λ (v : Service). entries_of_node node v.nodes.registry) a.left in
    omega (
      arith,
      left,
      counted-InsertsOne (is_of (λ (q : ℕ). q) node) n.entries s.nodes.registry.entries
          a.step.2.0.0 a.step.2.0.2,
    )

-- a node has as many entries after another was added
as_many : (id node : ℕ) (h : Handle) (s t : Service) → node ≢ id
    → Takes of_nodes (Addition id h) s t
    → entries_of_node node t.nodes.registry ≡ entries_of_node node s.nodes.registry
as_many id node h s t differ a =
    let m : RegistryState ℕ = a.registry in
    let left : entries_of_node node t.nodes.registry ≡ entries_of_node node m =
    ap (λ (v : Service). entries_of_node node v.nodes.registry) a.left in
    let none : one_if (is_of (λ (q : ℕ). q) node id) ≡ 0 =
    ap one_if (ne_eqb id node (λ e. differ (sym e))) in
    omega (
      arith,
      left,
      none,
      counted-InsertsOne (is_of (λ (q : ℕ). q) node) s.nodes.registry.entries m.entries
          (record { slot = h.slot; ticket = s.nodes.registry.used; details = id }) a.step.2.2,
    )

-- handles name the roles of their registries
removed_role : (h : Handle) (r m : RegistryState PortDetails) → PortRemoval h r m → h.role ≡ r.role
removed_role h r m step = ap (λ (q : Handle). q.role) step.2.0.1

added_role : (d : PortDetails) (h : Handle) (r m : RegistryState PortDetails) → Addition d h r m
    → h.role ≡ r.role
added_role d h r m step = ap (λ (q : Handle). q.role) step.2.0

-- a node has the entries that it had where ports changed
same_nodes : (Step : RegistryState PortDetails → RegistryState PortDetails → Type 0)
    (s t : Service) (node : ℕ) → TakesPorts Step s t → 0 < entries_of_node node t.nodes.registry
    → 0 < entries_of_node node s.nodes.registry
same_nodes Step s t node a = grind arith

module _ (c other : Call) (h k : Handle) (old mid new : Service) (i : IsService old)
    (j : IsService mid) (l : IsService new) where
  -- of two steps of ports of two roles the second can be made first
  roles_swap : (One Two : RegistryState PortDetails → RegistryState PortDetails → Type 0)
      → ((r m : RegistryState PortDetails) → One r m → h.role ≡ r.role)
      → ((r m : RegistryState PortDetails) → Two r m → k.role ≡ r.role)
      → (role to : Role) → role ≢ to → h.role ≡ to → k.role ≡ role → TakesPorts One old mid
      → TakesPorts Two mid new → Exchange (TakesPorts One) (TakesPorts Two) old mid new
  roles_swap One Two one two role to differ m n a b =
      others_first One Two old mid new a b
      (roles_apart One Two old mid new a b h k one two i j (λ e. differ (sym n ∙ (sym e ∙ m))))

  -- what a call with one change does can be done before what one with another change did
  swaps : (x y : Change) (is : IsChange x c) (by : IsChange y other) → CanPrecede x y
      → May y other by h → May x c is k → Made y other by h old mid → Made x c is k mid new
      → Fits x mid new
      → (w : Exchange (Made y other by h) (Made x c is k) old mid new) × Fits x old w.between
  swaps change.NodeRemoved change.NodeRemoved is by may m n a b f =
      let w =
      removals_swap of_nodes LockIfLastIndex (λ q. q ≡ Unlocked) h k old mid new i.nodes_are a b
      in (
        w,
        λ id e.
            let some : has_ports_of id new.ports ≡ true =
            ap (λ (v : Service). has_ports_of id v.ports) b.left
            ∙ (ap (λ (v : Service). has_ports_of id v.ports) a.left ∙ e) in
            omega (arith, has_node new l id some, fewer h w.between new id w.after),
      )
  swaps (change.PortRemoved role) change.NodeRemoved is by may m n a b f =
      (ports_first (NodeRemoval h) (PortRemoval k) old mid new a b, tt)
  swaps (change.PortRemoved role) (change.PortRemoved to) is by may m n a b f =
      (ports_swap (λ q. Unit {0}) Default h k old mid new i a b, tt)
  swaps (change.PortRemoved role) (change.NodeRegistered id) is by may m n a b f =
      (ports_first (Addition id h) (PortRemoval k) old mid new a b, tt)
  swaps (change.PortRemoved role) (change.PortAdded to node) is by may m n a b f =
      grind (arith, roles_swap, added_role, removed_role)
  swaps (change.NodeRegistered id) (change.PortRemoved role) is by may m n a b f =
      (nodes_first (Addition id k) (PortRemoval h) old mid new a b, tt)
  swaps (change.NodeRegistered id) (change.PortAdded role node) is by may m n a b f =
      (nodes_first (Addition id k) (Addition by.0.0 h) old mid new a b, tt)
  swaps (change.PortAdded role node) change.NodeRemoved is by may m n a b f = (
    ports_first (NodeRemoval h) (Addition is.0.0 k) old mid new a b,
    omega (arith, f, fewer h old mid node a),
  )
  swaps (change.PortAdded role node) (change.NodeRegistered id) is by may m n a b f = (
    ports_first (Addition id h) (Addition is.0.0 k) old mid new a b,
    omega (arith, f, as_many id node h old mid may a),
  )
  swaps (change.PortAdded role node) (change.PortRemoved to) is by may m n a b f =
      grind (arith, roles_swap, removed_role, added_role, same_nodes)
  swaps (change.PortAdded role node) (change.PortAdded to for) is by may m n a b f =
      grind (arith, roles_swap, added_role, same_nodes)
  swaps _ _ is by may m n a b f = absurd may

-- so a call with the one change moves before one with the other
module _ (x y : Change) (may : CanPrecede x y) (c other : Call) (is : IsChange x c)
    (by : IsChange y other) where
  both_made : (old mid new : Service) → CallStep other old mid → CallStep c mid new
      → Exchange (CallStep other) (CallStep c) old mid new
  both_made old mid new s t =
      let one = does y other by in
      let two = does x c is in
      let a = one.there old mid s in
      let b = two.there mid new t in
      let j = leaves_service other old mid s in
      let l = leaves_service c mid new t in
      let w =
      swaps c other a.0 b.0 old mid new s.0 j.0 l.0 x y is by may a.1 b.1 a.2 b.2
      (fits x c is b.0 mid new b.2 l.0) in
      let before = two.back b.0 b.1 old w.0.between s.0 s.1 w.0.before w.1 in
      let left = leaves_service c old w.0.between before in
      record {
        between = w.0.between;
        before = before;
        after = grind (arith, fits);
        first = w.0.first;
        second = w.0.second;
      }

  made_before : MovesBeforeCall c other
  made_before old mid new (io, so, eo) (im, sm, em) =
      let w = both_made old.service mid.service new.service so sm in
      let same : looks_after new.service mid.looks
      ≡ looks_after new.service (looks_after w.between old.looks) =
      ap (λ (v : Watched). looks_after new.service v.looks) eo
      ∙ (looks_between old.service mid.service new.service w.first old.looks io
      ∙ sym (looks_between old.service w.between new.service w.second old.looks io)) in (
        watched w.between old.looks,
        (io, w.before, refl),
        (
          looks_twice w.between old.looks,
          w.after,
          em ∙ ap (λ (l : List Look). record { service = new.service; looks = l }) same,
        ),
      )

-- calls by their numbers
pub numbers_move : (first : ℕ) (calls : List Judged) (number other : ℕ) (one two : Change)
    → ChangesAt first calls number one → ChangesAt first calls other two
    → CanPrecede one two → MovesBefore (WindowStep first calls) number other
numbers_move first calls number other one two a b may old mid new s t =
    let c = a.2.0 in
    let d = b.2.0 in
    let is : HasNumber first calls number (call c) =
    subst (λ j. HasNumber first calls number j) a.2.1 a.1 in
    let by : HasNumber first calls other (call d) =
    subst (λ j. HasNumber first calls other j) b.2.1 b.1 in
    let first_step : JudgedStep other (call d) old mid =
    subst (λ j. JudgedStep other j old mid) (one_call first calls other (call d) s.0 by s.1) s.2 in
    let second_step : JudgedStep number (call c) mid new =
    subst (λ j. JudgedStep number j mid new) (one_call first calls number (call c) t.0 is t.1) t.2
    in
    let m =
    made_before one two may c d a.2.2 b.2.2 old mid new first_step second_step in
    (m.0, (call c, is, m.1), (call d, by, m.2))
