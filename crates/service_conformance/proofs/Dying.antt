-- The recovery of a dead node, where ports of some values stay: what it leaves, and its reply.
use Rattle.service_conformance.proofs.Names.{Bool, List, Vec, ap, false, filter, if◌then◌else◌, map, not, refl, true, ℕ, ◌&&◌, ◌∙◌, ◌≡◌, and-true, All, All-cons, All-head, All-nil, All-tail, [], arith, eq-eqb, get_or, ne_eqb, subst, sym, ◌<◌, ◌==◌, ◌∷◌, All-filter, CalledInTurn, CallsCleanup, ByPort, CleanedUp, Cleans, ContainerState, Default, DeregisterNodeState, Entry, LeadsTo, LockIfLastIndex, NodesAfter, PortCleanupAction, PortDetails, RecoverStep, RegistryState, ReleaseState, RemovePort, Reply, ServesDead, Service, SkipPort, after_dead, details_where, at_rest, has_ports_of, is_kept, is_of, marks_of, node_of, nodes_if, port_of, ports_at_rest, quiet, removes, state_of, staying, with_left, without_node, without_ports, ArePossible, IsRegistry, IsService, Ports, RecoversBoth, RecoversNodes, RecoversPorts, action_for, candidates, container, port_value, release_state, reply_in, reply_of_owners, ReleaseMode, goes, reply_of_state}
use Rattle.iox2_container.proofs.Callable.{answers_by}
use Rattle.iox2_container.proofs.SameEntries.{staying_by}
use Rattle.iox2_dynamic.specs.declared.dynamic_config.answers.DeregisterNodeState.TheVariants as nodes
use Rattle.iox2_container.proofs.Lists.{AllPairs-head, AllPairs-tail}
use Rattle.iox2_dynamic.proofs.Keeping.{dead_kept, skipped_kept}
use Rattle.service_conformance.specs.declared.conformance.line_reply.LineReply.TheVariants as line
use Rattle.service_conformance.specs.declared.conformance.seen_reply.ReplyWord.TheVariants as word
use Rattle.service_conformance.specs.declared.conformance.possible.Possible.TheVariants as possible
use Rattle.service_conformance.proofs.Possibles.{owned, alone}
use Rattle.service_conformance.proofs.Registries.{kept_filter, Rise}
use Rattle.service_conformance.proofs.Quiet.{untouching}

-- marks of slots that agree with a test of entries
marks_for : {T : Type 0} (es : List (Entry T)) (goes : Entry T → Bool) → Rise es
    → (marked : ℕ → Bool) × All (λ e. marked e.slot ≡ goes e) es
marks_for {T} [] goes rises = (λ n. false, All-nil (λ (e : Entry T). false ≡ goes e))
marks_for {T} (e ∷ es) goes rises =
    let R : Entry T → Entry T → Type 0 = λ v w. v.slot < w.slot in
    let rest = marks_for es goes (AllPairs-tail R e es rises) in
    let up : All (R e) es = AllPairs-head R e es rises in
    let marked : ℕ → Bool = λ n. if n == e.slot then goes e else rest.0 n in (
      marked,
      All-cons (λ (x : Entry T). marked x.slot ≡ goes x) e es
          (ap (λ b. if b then goes e else rest.0 e.slot) (eq-eqb e.slot e.slot refl))
          (λ k d h.
          let x : Entry T = get_or es k d in
          let above : e.slot < x.slot = up k d h in
          ap (λ b. if b then goes e else rest.0 x.slot)
          (ne_eqb x.slot e.slot (λ q. absurd (omega (arith, above, q))))
          ∙ rest.1 k d h),
    )

marks_same : {T : Type 0} (marked : ℕ → Bool) (answer : T → Bool) (es : List (Entry T))
    → All (λ e. marked e.slot ≡ answer e.details) es
    → map (λ e. marked e.slot) es ≡ map answer (map (λ (e : Entry T). e.details) es)
marks_same marked answer [] a = refl
marks_same {T} marked answer (e ∷ es) a =
    let P : Entry T → Type 0 = λ e. marked e.slot ≡ answer e.details in
    rw (All-head P e es a, marks_same marked answer es (All-tail P e es a)) refl

-- a callback that answers each item so, and stays as it is, can be called on them
called_so : {F A R : Type 0} (calls : F → A → R → F → Type 0) (f : F) (answer : A → R)
    → ((x : A) → calls f x (answer x) f) → (items : List A)
    → CalledInTurn calls f items (map answer items) f
called_so calls f answer so [] = refl
called_so calls f answer so (x ∷ items) = (f, so x, called_so calls f answer so items)

-- a recovery whose callback answers so on each candidate
module _ {F T : Type 0} (calls : F → T → Bool → F → Type 0) (is_dead answer goes : T → Bool)
    (both : (d : T) → (is_dead d && answer d) ≡ goes d) (mode : ReleaseMode)
    (old : RegistryState T) where
  -- what it leaves
  abbrev left_by : RegistryState T
  left_by = with_left old mode (filter (λ e. not (goes e.details)) old.entries)

  entries_left : (marked : ℕ → Bool)
      → marks_of is_dead marked old.entries ≡ map answer (details_where is_dead old)
      → staying is_dead marked old.entries ≡ left_by.entries
  entries_left marked marks =
      staying_by is_dead answer marked old.entries marks
      ∙ (λ i. filter (λ e. not (both e.details i)) old.entries)

  leaves : ((q : F) (d : T) (b : Bool) (v : F) → calls q d b v → b ≡ answer d) → (f g : F)
      (state : ReleaseState) (new : RegistryState T)
      → RecoverStep calls is_dead old f mode state new g → new ≡ left_by
  leaves so f g state new s =
      let entries =
      entries_left s.marked
      (answers_by {K = Unit {0}} calls (λ _. tt) (λ _. answer) (λ q d b v c. (refl, so q d b v c)) f
      (details_where is_dead old) (marks_of is_dead s.marked old.entries) g s.called) in
      let is : new.entries ≡ left_by.entries =
      ap (λ (r : RegistryState T). r.entries) s.recovers.0 ∙ entries in
      s.recovers.0 ∙ rw (is, entries) refl

  can_leave : (f : F) → ((d : T) → calls f d (answer d) f) → IsRegistry old
      → RecoverStep calls is_dead old f mode (release_state left_by.locked) left_by f
      × IsRegistry left_by
  can_leave f so k =
      let m = marks_for old.entries (λ e. answer e.details) k.slots_rise in
      let marks =
      marks_same m.0 answer (candidates is_dead old.entries)
      (All-filter (λ e. is_dead e.details) (λ e. m.0 e.slot ≡ answer e.details) old.entries m.1)
      in (
        record {
          marked = m.0;
          called = grind (arith, called_so);
          recovers = (rw (entries_left m.0 marks) refl, refl);
        },
        kept_filter old mode (λ e. not (goes e.details)) k,
      )

removed : (b : Bool) → removes (if b then SkipPort else RemovePort) ≡ not b
removed true = refl
removed false = refl

-- a cleanup that keeps ports of these values is called on a port
abbrev CleansPort : Vec ℕ → List PortCleanupAction → PortDetails → Bool → List PortCleanupAction
    → Type 0
CleansPort kept f d goes g = CallsCleanup (Cleans (ByPort kept)) f (port_of d) goes g

module _ (kept : Vec ℕ) (dead : ℕ) (old : RegistryState PortDetails) where
  ports_left : (f g : List PortCleanupAction) (state : ReleaseState)
      (new : RegistryState PortDetails)
      → RecoverStep (CleansPort kept) (is_of node_of dead) old f Default state new g
      → new ≡ without_ports dead kept.items old
  ports_left =
      leaves (CleansPort kept) (is_of node_of dead) (λ d. not (is_kept kept.items d))
      (goes dead kept.items) (λ d. refl) Default old
      (λ q d b v c. c.2 ∙ (ap removes c.1.0 ∙ removed (is_kept kept.items d)))

  ports_can : (left : List PortCleanupAction) (touches : ℕ) → IsRegistry old
      → RecoversPorts (Cleans (ByPort kept)) dead (container old touches) left
      (container (without_ports dead kept.items old) touches) left
  ports_can left touches k =
      let so =
      can_leave (CleansPort kept) (is_of node_of dead) (λ d. not (is_kept kept.items d))
      (goes dead kept.items) (λ d. refl) Default old left
      (λ d. (
        action_for kept.items (port_value (port_of d)),
        (refl, refl),
        sym (removed (is_kept kept.items d)),
      )) k in (
        release_state old.locked,
        untouching (λ r s. RecoverStep (CleansPort kept) (is_of node_of dead) r left Default
            (release_state old.locked) s left)
            (container old touches) (without_ports dead kept.items old) so.0 so.1,
      )

-- every entry of the dead node goes
module _ (dead : ℕ) (old : ContainerState ℕ) where
  abbrev Goes : Unit {0} → ℕ → Bool → Unit {0} → Type 0
  Goes _ _ goes _ = goes ≡ true

  node_left : (new : RegistryState ℕ) (state : ReleaseState)
      → RecoverStep Goes (is_of (λ i. i) dead) old.registry tt LockIfLastIndex state new tt
      → new ≡ without_node dead old.registry
  node_left new state =
      leaves Goes (is_of (λ i. i) dead) (λ d. true) (is_of (λ i. i) dead)
      (λ d. and-true (is_of (λ i. i) dead d)) LockIfLastIndex old.registry (λ q d b v c. c) tt tt
      state new

  nodes_can : IsRegistry old.registry
      → RecoversNodes dead old (release_state (without_node dead old.registry).locked)
      (container (without_node dead old.registry) old.touches)
  nodes_can k =
      let so =
      can_leave Goes (is_of (λ i. i) dead) (λ d. true) (is_of (λ i. i) dead)
      (λ d. and-true (is_of (λ i. i) dead d)) LockIfLastIndex old.registry tt (λ d. refl) k in
      untouching _ old (without_node dead old.registry) so.0 so.1

  -- the nodes that are left, and the answer by their lock
  nodes_left : (left : Bool) (new : ContainerState ℕ) (state : ReleaseState)
      → NodesAfter dead left old state new → (new.registry ≡ nodes_if left dead old.registry)
      × (state ≡ release_state (nodes_if left dead old.registry).locked)
  nodes_left true new state s = (ap (λ (c : ContainerState ℕ). c.registry) s.1, s.0)
  nodes_left false new state s =
      let is = node_left new.registry state s.step in
      (is, s.step.recovers.1 ∙ ap (λ (r : RegistryState ℕ). release_state r.locked) is)

  nodes_step : (left : Bool) (state : ReleaseState) → IsRegistry old.registry
      → state ≡ release_state (nodes_if left dead old.registry).locked
      → NodesAfter dead left old state (container (nodes_if left dead old.registry) old.touches)
  nodes_step true state k e = (e, refl)
  nodes_step false state k e = grind (arith, nodes_can)

module _ (s : Service) (dead : ℕ) (kept : Vec ℕ) where
  abbrev Dies : Reply → Service → Type 0
  Dies = ServesDead s dead (ByPort kept)

  abbrev first : RegistryState PortDetails
  first = without_ports dead kept.items s.ports.first.registry

  abbrev second : RegistryState PortDetails
  second = without_ports dead kept.items s.ports.second.registry

  -- whether a port of the dead node is left
  abbrev some : Bool
  some = has_ports_of dead (ports_at_rest first second)

  abbrev locked : Bool
  locked = (nodes_if some dead s.nodes.registry).locked

  -- what is left, and the answer by the lock
  dies : (n : DeregisterNodeState) (w : Service) → CleanedUp s dead (ByPort kept) n w
      → (quiet w ≡ after_dead s dead kept.items) × (state_of n ≡ release_state locked)
  dies n w (rest, st) =
      let p = st.ports in
      let one : w.ports.first.registry ≡ first =
      ports_left kept dead s.ports.first.registry _ _ p.1.0 w.ports.first.registry p.1.1.step in
      let other : w.ports.second.registry ≡ second =
      ports_left kept dead s.ports.second.registry _ _ p.2.0 w.ports.second.registry p.2.1.step in
      let has : has_ports_of dead w.ports ≡ some =
      ap (λ r. has_ports_of dead (ports_at_rest r w.ports.second.registry)) one
      ∙ ap (λ r. has_ports_of dead (ports_at_rest first r)) other in
      let left =
      nodes_left dead s.nodes some w.nodes (state_of n)
      (subst (λ b. NodesAfter dead b s.nodes (state_of n) w.nodes) has st.nodes) in
      (ap quiet st.others ∙ rw (left.0, one, other) refl, left.1)

  answers : (r : Reply) (w : Service) → Dies r w
      → (n : DeregisterNodeState) × (r ≡ reply_of_state n) × CleanedUp s dead (ByPort kept) n w
  answers _ w so = grind arith

  -- what a reply leaves, by its parts
  pub dead_left : (r : Reply) (F G : RegistryState PortDetails) (b : Bool) → F ≡ first → G ≡ second
      → has_ports_of dead (ports_at_rest F G) ≡ b
      → LeadsTo Dies r (at_rest s.pattern (nodes_if b dead s.nodes.registry) F G)
  dead_left r F G b one other e = λ w so.
      let a = answers r w so in rw (← e, one, other) (dies a.0 w a.2).0

  -- the dead node can be removed
  abbrev ports : Ports
  ports = record {
    first = container first s.ports.first.touches;
    second = container second s.ports.second.touches;
  }

  abbrev after : Bool → Service
  after left = record s {
    ports = ports;
    nodes = container (nodes_if left dead s.nodes.registry) s.nodes.touches;
  }

  both : IsService s → RecoversBoth (Cleans (ByPort kept)) dead s.ports [] ports []
  both i = (
    [],
    ports_can kept dead s.ports.first.registry [] s.ports.first.touches
        i.ports_are.first.is_registry,
    ports_can kept dead s.ports.second.registry [] s.ports.second.touches
        i.ports_are.second.is_registry,
  )

  kept_die : (left : Bool) → IsService s → some ≡ left → IsService (after left)
  kept_die true i e =
      skipped_kept (Cleans (ByPort kept)) s [] dead s.pattern ports [] refl (both i) i
  kept_die false i e =
      dead_kept (Cleans (ByPort kept)) s [] dead s.pattern ports []
      (release_state (without_node dead s.nodes.registry).locked)
      (container (without_node dead s.nodes.registry) s.nodes.touches) refl (both i) e
      (nodes_can dead s.nodes i.nodes_are) i

  can_die : (n : DeregisterNodeState) → IsService s → state_of n ≡ release_state locked
      → CleanedUp s dead (ByPort kept) n (after some)
  can_die n i e = grind (arith, both, nodes_step)

  dead_only : (b : Bool) → b ≡ locked → (r : Reply) (w : Service) → Dies r w
      → reply_in (reply_of_owners b) ≡ r
  dead_only b e r w so =
      let a = answers r w so in
      owned b a.0 ((dies a.0 w a.2).1 ∙ ap release_state (sym e)) ∙ sym a.1

  pub dead_possible : (b : Bool) → IsService s → b ≡ locked
      → ArePossible s Dies (possible.One (reply_of_owners b))
  dead_possible true i e =
      alone _ _ (line.Word word.NoMoreOwners) (after some) (λ r. refl)
      (can_die nodes.NoMoreOwners i (ap release_state e)) (kept_die some i refl) (dead_only true e)
  dead_possible false i e =
      alone _ _ (line.Word word.HasOwners) (after some) (λ r. refl)
      (can_die nodes.HasOwners i (ap release_state e)) (kept_die some i refl) (dead_only false e)
