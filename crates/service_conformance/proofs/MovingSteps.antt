-- What calls that were answered do, by what they change.
use Rattle.service_conformance.proofs.Names.{All, All-head, All-tail, Err, List, None, Ok, Option, Result, Some, [], ap, arith, eq-eqb, eqb-true, false, false_from_ne_true, inl, inr, ltb-true, nat_eq, nat_lt, ne_eqb, or_cases, refl, same_Some, subst, suc, sym, true, zero, ℕ, Bool, ◌&&◌, ◌<◌, ◌∙◌, ◌∷◌, ◌≡◌, AddStep, Call, CallStep, Change, Command, ContainerHandleNotOwnedByContainer, ContainerRemoveError, Default, Entry, Handle, HasEntry, HasWords, InsertsOne, IsChange, IsService, LockIfLastIndex, PortDetails, Registered, RegistryState, ReleaseState, RemoveStep, RemovesPort, Reply, Role, Serves, ServesAdd, ServesDeregister, ServesRegister, ServesRelease, Service, Unlocked, entries_of_node, handle_in, handle_words, has_ports_of, is_last_of_ports, is_of, named, node_of, ports_at, quiet, role_at, role_of, text_of, word_text, container}
use Rattle.iox2_container.proofs.Counting.{counted, counted-InsertsOne, counted-cons, one_if}
use Rattle.iox2_container.proofs.Lists.{All-back}
use Rattle.iox2_dynamic.proofs.Keeping.{leaving_kept}
use Rattle.service_descriptions.specs.declared.replay.machine.command.Command.TheVariants as command
use Rattle.service_descriptions.specs.declared.replay.machine.reply.Reply.TheVariants as reply
use Rattle.service_conformance.specs.declared.conformance.mover.Change.TheVariants as change
use Rattle.service_conformance.specs.declared.conformance.seen_reply.ReplyWord.TheVariants as word
use Rattle.service_conformance.proofs.Taking.{given_at, its_ports, Takes, TakesPorts, nodes_taken, ports_taken, ports_are}
use Rattle.service_conformance.proofs.Taking.Place.{of_nodes}
use Rattle.service_conformance.proofs.MovingParts.{Removal}
use Rattle.service_conformance.proofs.Following.{attach_enters, register_enters, release_goes}
use Rattle.service_conformance.proofs.Possibles.{attaches, registers, released}
use Rattle.service_conformance.proofs.Quiet.{service_quiet, untouching}
use Rattle.service_conformance.proofs.Registries.{remove_once, was_given}
use Rattle.service_conformance.proofs.Seen.{is_handle, is_named, no_handle_text}
use Rattle.service_conformance.proofs.Looking.{by_cases}

-- an entry is added
abbrev pub Addition : {T : Type 0} → T → Handle → RegistryState T → RegistryState T → Type 0
Addition d h r m = AddStep r d (Ok h) m

-- a node's entry is removed, and others are left
abbrev pub NodeRemoval : Handle → RegistryState ℕ → RegistryState ℕ → Type 0
NodeRemoval h = Removal h LockIfLastIndex (λ state. state ≡ Unlocked)

-- a port is removed
abbrev pub PortRemoval : Handle → RegistryState PortDetails → RegistryState PortDetails → Type 0
PortRemoval h = Removal h Default (λ state. Unit {0})

-- what a call with a change does, by its handle
abbrev pub Made : (x : Change) (c : Call) → IsChange x c → Handle → Service → Service → Type 0
Made change.NodeRemoved c is h = Takes of_nodes (NodeRemoval h)
Made (change.PortRemoved role) c is h = TakesPorts (PortRemoval h)
Made (change.NodeRegistered id) c is h = Takes of_nodes (Addition id h)
Made (change.PortAdded role node) c is h = TakesPorts (Addition is.0.0 h)

-- what has to hold besides, for a service to be left: the nodes of ports are registered
abbrev pub Fits : Change → Service → Service → Type 0
Fits change.NodeRemoved s t =
    (id : ℕ) → has_ports_of id s.ports ≡ true → 0 < entries_of_node id t.nodes.registry
Fits (change.PortAdded role node) s t = 0 < entries_of_node node s.nodes.registry
Fits _ s t = Unit {0}

-- a port of the node is among those
port_among : (P : ℕ → Type 0) (id : ℕ) (es : List (Entry PortDetails))
    → All (λ e. P (node_of e.details)) es → 0 < counted (is_of node_of id) es → P id
port_among P id [] all some = absurd (omega arith)
port_among P id (e ∷ es) all some =
    let Q : Entry PortDetails → Type 0 = λ e. P (node_of e.details) in
    by_cases _ (is_of node_of id e.details)
    (λ t. subst P (eqb-true (node_of e.details) id t) (All-head Q e es all)) (λ f.
    let none : one_if (is_of node_of id e.details) ≡ 0 = ap one_if f in
    port_among P id es (All-tail Q e es all)
    (omega (arith, some, none, counted-cons (is_of node_of id) e es)))

-- a node that has ports is registered
pub has_node : (s : Service) → IsService s → (id : ℕ) → has_ports_of id s.ports ≡ true
    → 0 < entries_of_node id s.nodes.registry
has_node s i id e =
    let P : ℕ → Type 0 = λ id. 0 < entries_of_node id s.nodes.registry in
    let first = counted (is_of node_of id) s.ports.first.registry.entries in
    let second = counted (is_of node_of id) s.ports.second.registry.entries in
    elim (or_cases (nat_lt 0 first) (nat_lt 0 second) e) [
      | inl t ↦
          port_among P id s.ports.first.registry.entries i.ports_are.first.registered
          (ltb-true 0 first t)
      | inr t ↦
          port_among P id s.ports.second.registry.entries i.ports_are.second.registered
          (ltb-true 0 second t)
    ]

-- what a call does fits where it leaves a service
pub fits : (x : Change) (c : Call) (is : IsChange x c) (h : Handle) (s t : Service)
    → Made x c is h s t → IsService t → Fits x s t
fits change.NodeRemoved c is h s t a k = λ id e.
    has_node t k id (ap (λ (v : Service). has_ports_of id v.ports) a.left ∙ e)
fits (change.PortRemoved role) c is h s t a k = tt
fits (change.NodeRegistered id) c is h s t a k = tt
fits (change.PortAdded role node) c is h s t (side, a) k =
    let m : RegistryState PortDetails = a.registry in
    let x : Entry PortDetails =
    record { slot = h.slot; ticket = (ports_at s side).registry.used; details = is.0.0 } in
    let g : InsertsOne (ports_at s side).registry.entries m.entries x = a.step.2.2 in
    let P : Entry PortDetails → Type 0 =
    λ e. 0 < entries_of_node (node_of e.details) s.nodes.registry in
    let there : (ports_at t side).registry ≡ m =
    ap (λ (v : Service). (ports_at v side).registry) a.left ∙ its_ports side s m in
    let all : All P m.entries =
    subst (λ (r : RegistryState PortDetails). All P r.entries) there
    (subst (λ (r : RegistryState ℕ). Registered r (ports_at t side).registry.entries)
    (ap (λ (v : Service). v.nodes.registry) a.left) (ports_are t side k).registered) in
    let one : P x =
    All-head P x g.after (All-back P g.before (x ∷ g.after)
    (subst (λ (l : List (Entry PortDetails)). All P l) g.new_is all)) in
    subst (λ n. 0 < entries_of_node n s.nodes.registry) is.0.3 one

not_last : (last some : Bool) → (some ≡ true → last ≡ false) → (last && some) ≡ false
not_last false some e = refl
not_last true false e = refl
not_last true true e = e refl

-- a step leads to a service that is seen as this one
abbrev LeadsBy : (Service → Type 0) → Service → Type 0
LeadsBy Step t = (mid : Service) × Step mid × IsService mid × (quiet mid ≡ t)

module _ (s : Service) (i : IsService s) (h : Handle) (t : Service) where
  node_goes : Takes of_nodes (NodeRemoval h) s t → Fits change.NodeRemoved s t
      → LeadsBy (ServesDeregister s (Some h) reply.HasOwners) t
  node_goes a fits =
      let r = s.nodes.registry in
      let n : RegistryState ℕ = a.registry in
      let step : RemoveStep r h LockIfLastIndex (Ok Unlocked) n =
      subst (λ q. RemoveStep r h LockIfLastIndex (Ok q) n) a.step.1 a.step.2 in
      let x : Entry ℕ = step.0.0 in
      let id = x.details in
      let has : HasEntry r h id = (x, step.0.1, refl, (n.entries, step.0.2)) in
      let one : one_if (is_of (λ (q : ℕ). q) id id) ≡ 1 = ap one_if (eq-eqb id id refl) in
      let more : is_last_of_ports id s ≡ false =
      not_last (nat_eq (entries_of_node id r) 1) (has_ports_of id s.ports) (λ some.
      let left : 0 < entries_of_node id n =
      subst (λ (v : Service). 0 < entries_of_node id v.nodes.registry) a.left (fits id some) in
      ne_eqb (entries_of_node id r) 1 (λ e. omega (
        arith,
        e,
        left,
        one,
        counted-InsertsOne (is_of (λ (q : ℕ). q) id) n.entries r.entries x step.0.2,
      ))) in
      let nodes = container n s.nodes.touches in (
        record s { nodes = nodes },
        (id, has, more, untouching _ s.nodes n step a.whole, refl),
        leaving_kept s nodes h id has more step.0 a.whole i,
        sym a.left,
      )

  node_comes : (id : ℕ) → Takes of_nodes (Addition id h) s t
      → LeadsBy (ServesRegister s id (reply.Handle h)) t
  node_comes id a =
      let may = was_given s.nodes.registry a.registry id h a.step a.whole in
      let can =
      (registers s id None i (a.step.0, a.step.1)).can (reply.Handle h) (h, refl, may) in (
        can.0,
        can.1,
        can.2,
        (register_enters s id h can a.registry a.step a.whole).0 can.0 can.1 ∙ sym a.left,
      )

  port_goes : TakesPorts (PortRemoval h) s t
      → LeadsBy (ServesRelease s (Some h) reply.Released) t
  port_goes (side, a) =
      let at : h.role ≡ role_at s.pattern side =
      ap (λ (q : Handle). q.role) a.step.2.0.1 ∙ (ports_are s side i).role_is in
      let step = a.step.2 in
      let x : Entry PortDetails = step.0.0 in
      let has : HasEntry (ports_at s side).registry h x.details =
      (x, step.0.1, refl, (a.registry.entries, step.0.2)) in
      let can = (released s h side at x.details has i).can reply.Released refl in
      let leads =
      release_goes s h side at a.registry (λ state new gone.
      remove_once (ports_at s side).registry new a.registry h Default state a.step.0
      (ports_are s side i).is_registry gone step) reply.Released refl in
      (can.0, can.1, can.2, leads can.0 can.1 ∙ sym a.left)

  port_comes : (d : PortDetails) → h.role ≡ role_of d → TakesPorts (Addition d h) s t
      → 0 < entries_of_node (node_of d) s.nodes.registry
      → LeadsBy (ServesAdd s d (reply.Handle h)) t
  port_comes d role (side, a) some =
      let at : role_of d ≡ role_at s.pattern side =
      sym role ∙ (ap (λ (q : Handle). q.role) a.step.2.0 ∙ (ports_are s side i).role_is) in
      let is_open : s.nodes.registry.locked ≡ false =
      false_from_ne_true s.nodes.registry.locked (λ e.
      let none : entries_of_node (node_of d) s.nodes.registry ≡ 0 =
      ap (counted (is_of (λ (q : ℕ). q) (node_of d))) (i.nodes_are.locked_is_empty e) in
      omega (arith, some, none)) in
      let may = was_given (ports_at s side).registry a.registry d h a.step a.whole in
      let can =
      (attaches s d side at (is_open, some) None i (a.step.0, a.step.1)).can (reply.Handle h)
      (h, refl, given_at s side h may) in (
        can.0,
        can.1,
        can.2,
        (attach_enters s d side h at can a.registry a.step a.whole).0 can.0 can.1 ∙ sym a.left,
      )

-- what the steps of a service do
node_gone : (s mid : Service) (o : Option Handle) → ServesDeregister s o reply.HasOwners mid
    → (h : Handle) × (o ≡ Some h) × Takes of_nodes (NodeRemoval h) s (quiet mid)
node_gone s mid None so = absurd so
node_gone s mid (Some h) so = (
  h,
  refl,
  record {
    registry = mid.nodes.registry;
    step = (Unlocked, refl, so.3.step);
    whole = so.3.kept;
    left = ap quiet so.4;
  },
)

port_gone : (s mid : Service) (o : Option Handle) → ServesRelease s o reply.Released mid
    → (h : Handle) × (o ≡ Some h) × TakesPorts (PortRemoval h) s (quiet mid)
port_gone s mid None so = absurd so
port_gone s mid (Some h) so = (h, refl, gone so.0 so.1)
  where
    gone : (state : ReleaseState) → RemovesPort s h (Ok state) mid
        → TakesPorts (PortRemoval h) s (quiet mid)
    gone state (inl a, e) =
        let t =
        ports_taken (λ r m. RemoveStep r h Default (Ok state) m) h.role s mid a e in (
          a.side,
          record {
            registry = t.registry;
            step = (state, tt, t.step);
            whole = t.whole;
            left = t.left;
          },
        )
    gone state (inr a, e) =
        absurd (let z : ◌≡◌ {A = Result ReleaseState ContainerRemoveError} (Ok state)
        (Err ContainerHandleNotOwnedByContainer) = a.1 in cc)

-- The call does this, with one of these handles, and nothing else.
pub record Does (c : Call) (May : Handle → Type 0) (Fits : Service → Service → Type 0)
    (Step : Handle → Service → Service → Type 0) : Type 0 where
  pub there : (old new : Service) → CallStep c old new → (h : Handle) × May h × Step h old new
  pub back : (h : Handle) → May h → (old new : Service) → IsService old → quiet old ≡ old
      → Step h old new → Fits old new → CallStep c old new

-- a call leaves a service of which no touch is counted
pub leaves_service : (c : Call) (old new : Service) → CallStep c old new
    → IsService new × (quiet new ≡ new)
leaves_service c old new step = grind (arith, service_quiet)

-- a call of this command, which names this handle, and has these words
module _ (own : Command) (handle : Option Handle) (words : List ℕ) (May : Handle → Type 0)
    (Fits : Service → Service → Type 0) (Step : Handle → Service → Service → Type 0) where
  abbrev ServesOwn : Service → Reply → Service → Type 0
  ServesOwn s r t = Serves s None (handle ∷ []) own r t

  does_own : ((r : Reply) → text_of r ≡ words → (old mid : Service) → IsService old
      → ServesOwn old r mid → (h : Handle) × May h × Step h old (quiet mid))
      → ((h : Handle) → May h → (r : Reply) × (text_of r ≡ words)
      × ((old new : Service) → IsService old → Step h old new → Fits old new
      → LeadsBy (ServesOwn old r) new))
      → (c : Call) → c.command ≡ own → c.handle ≡ handle → c.words ≡ Some words
      → Does c May Fits Step
  does_own there back c e f g =
      let own_call : Call = record { command = own; handle = handle; words = Some words } in
      let is : own_call ≡ c = rw (← e, ← f, ← g) refl in
      subst (λ (c : Call). Does c May Fits Step) is (record {
        there = grind arith;
        back = grind (arith, fits);
      })

-- a reply with the words of a handle is that of one
gave : (r : Reply) (slot ticket : ℕ) → text_of r ≡ handle_words slot ticket
    → (h : Handle) × (r ≡ reply.Handle h)
gave r slot ticket e = cases (handle_in r) refl
  where
    cases : (o : Option Handle) → handle_in r ≡ o → (h : Handle) × (r ≡ reply.Handle h)
    cases None is = absurd (no_handle_text r is slot ticket e)
    cases (Some h) is = (h, is_handle r h is)

named_role : (role : Role) (k : ℕ) (o : Option Handle) (h : Handle) → named (o ∷ []) k ≡ Some h
    → ((x : Handle) × (o ≡ Some x) × (x.role ≡ role)) → h.role ≡ role
named_role role zero o h e x = grind (arith, same_Some)
named_role role (suc k) o h e x =
    absurd (let z : ◌≡◌ {A = Option Handle} None (Some h) = e in cc)

-- the handles that a call with a change may have
abbrev pub May : (x : Change) (c : Call) → IsChange x c → Handle → Type 0
May change.NodeRemoved c is h = named (c.handle ∷ []) is.0.0 ≡ Some h
May (change.PortRemoved role) c is h =
    (named (c.handle ∷ []) is.0.0 ≡ Some h) × (h.role ≡ role)
May (change.NodeRegistered id) c is h = HasWords c.words (reply.Handle h)
May (change.PortAdded role node) c is h = HasWords c.words (reply.Handle h) × (h.role ≡ role)

pub does : (x : Change) (c : Call) (is : IsChange x c)
    → Does c (May x c is) (Fits x) (Made x c is)
does change.NodeRemoved c is =
    let o = named (c.handle ∷ []) is.0.0 in
    does_own (command.Deregister is.0.0) c.handle (word_text word.HasOwners) _ _ _
    (λ r text old mid i so.
    node_gone old mid o
    (subst (λ q. ServesDeregister old o q mid) (is_named r word.HasOwners text) so))
    (λ h e. (
      reply.HasOwners,
      refl,
      λ old new i a fits.
          subst (λ o. LeadsBy (ServesDeregister old o reply.HasOwners) new) (sym e)
          (node_goes old i h new a fits),
    )) c is.0.1 refl is.1
does (change.PortRemoved role) c is =
    let o = named (c.handle ∷ []) is.0.0 in
    does_own (command.Release is.0.0) c.handle (word_text word.Released) _ _ _
    (λ r text old mid i so.
    let gone =
    port_gone old mid o
    (subst (λ q. ServesRelease old o q mid) (is_named r word.Released text) so) in
    (gone.0, (gone.1, named_role role is.0.0 c.handle gone.0 gone.1 is.1), gone.2))
    (λ h e. (
      reply.Released,
      refl,
      λ old new i a fits.
          subst (λ o. LeadsBy (ServesRelease old o reply.Released) new) (sym e.0)
          (port_goes old i h new a),
    )) c is.0.1 refl is.2
does (change.NodeRegistered id) c is =
    let words = handle_words is.1.0 is.1.1 in
    does_own (command.Register id) c.handle words _ _ _
    (λ r text old mid i so.
    let g = gave r is.1.0 is.1.1 text in
    let step = subst (λ q. ServesRegister old id q mid) g.1 so in (
      g.0,
      subst (λ o. HasWords o (reply.Handle g.0)) (sym is.1.2)
          (subst (λ q. text_of q ≡ words) g.1 text),
      nodes_taken (Addition id g.0) old mid step.0 step.1,
    ))
    (λ h may. (
      reply.Handle h,
      subst (λ o. HasWords o (reply.Handle h)) is.1.2 may,
      λ old new i a fits. node_comes old i h new id a,
    )) c is.0 refl is.1.2
does (change.PortAdded role node) c is =
    let d = is.0.0 in
    let words = handle_words is.1.0 is.1.1 in
    does_own (command.Add d) c.handle words _ _ _
    (λ r text old mid i so.
    let g = gave r is.1.0 is.1.1 text in
    let step = subst (λ q. ServesAdd old d q mid) g.1 so in
    let a = step.1.1.0 in
    let given : g.0.role ≡ role =
    ap (λ (q : Handle). q.role) a.step.step.2.0
    ∙ ((ports_are old a.side i).role_is ∙ (sym a.role_is ∙ is.0.2)) in (
      g.0,
      (
        subst (λ o. HasWords o (reply.Handle g.0)) (sym is.1.2)
            (subst (λ q. text_of q ≡ words) g.1 text),
        given,
      ),
      (a.side, ports_taken (Addition d g.0) (role_of d) old mid a step.1.1.1),
    ))
    (λ h may. (
      reply.Handle h,
      subst (λ o. HasWords o (reply.Handle h)) is.1.2 may.0,
      λ old new i a fits.
          port_comes old i h new d (may.1 ∙ sym is.0.2) a
          (subst (λ n. 0 < entries_of_node n old.nodes.registry) (sym is.0.3) fits),
    )) c is.0.1 refl is.1.2
