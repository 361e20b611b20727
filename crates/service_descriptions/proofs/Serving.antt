-- Each command moves a service on: it keeps its number and gives each ticket once, so no handle is
-- given twice.
use Rattle.std.proofs.Common.{◌≡◌, ℕ, ◌<◌, ◌≤◌, Bool, true, false, Option, Some, None, Result, Ok, Err, List, inl, inr, arith, refl, sym, ◌∙◌, ap, subst, [], ◌∷◌, ◌++◌}
use Rattle.std.specs.Prelude.{IfSome, MatchResult, ok_or}
use Rattle.iox2_texts.specs.Verify.{Requirements}
use Rattle.service_descriptions.specs.Descriptions.{details_in}
use Rattle.service_descriptions.proofs.Names.{PatternKind, ContainerAddFailure, Default, LockIfLastIndex, ReleaseState, Role, Handle, ContainerState, RegistryState, AddStep, is_of, DeregisterNodeState, PortDetails, node_of, has_ports_of, Side, of_side, other_side, First, Second, Service, IsService, AddsPort, RemovesPort, NodesAfter, Description, Cleanup, Command, Reply, CleanedUp, ServesDead, ServesVerify, ServesMessages, ServesLayout, ServesPlaces, ServesCompatible, named, tickets_of, ServesNodes, ServesList, ServesCount, ServesRegister, ServesDeregister, ServesAdd, ServesRelease, Serves, handle_in, map-append, All-push, All-weaker, Vec, DeregisterStep, reply_of_owners, Differ, IsGiven, KeepsHandles, handle_at, handles_in, IsSound, described, session_of, LineStep, StandsFor, handle_given, reply_of, IsState, ServiceStep, State}
use Rattle.iox2_config.specs.declared.hash.input.PatternKind.TheVariants as kind
use Rattle.iox2_config.specs.declared.types.message_details.MessageTypeDetails.{MessageTypeDetails}
use Rattle.iox2_container.specs.declared.container.registry.ContainerAddFailure.TheVariants as container
use Rattle.iox2_container.specs.declared.container.registry.ContainerRemoveError.{ContainerRemoveError}
use Rattle.iox2_container.specs.declared.container.registry.ContainerRemoveError.TheVariants as remove
use Rattle.iox2_container.specs.declared.container.registry.ReleaseState.TheVariants.{Locked, Unlocked}
use Rattle.iox2_container.specs.declared.container.handle.Role.TheVariants as role
use Rattle.iox2_dynamic.specs.declared.dynamic_config.answers.DeregisterNodeState.TheVariants as nodes
use Rattle.iox2_dynamic.specs.Steps.{state_of}
use Rattle.iox2_dynamic.specs.Service.{IsPortRegistry, role_at}
use Rattle.service_descriptions.specs.declared.replay.machine.command.Command.TheVariants as command
use Rattle.service_descriptions.specs.declared.replay.machine.command.MessagePart.{MessagePart}
use Rattle.service_descriptions.specs.declared.replay.machine.reply.Reply.TheVariants as reply
use Rattle.iox2_container.proofs.Histories.{Grows, grows_same, grows_add, grows_remove, grows_recover}
use Rattle.std.proofs.lemmas.List.Quantifiers.{all_pairs_push}
use Rattle.service_descriptions.specs.declared.replay.machine.reply.LineAnswer.{LineAnswer}
use Rattle.service_descriptions.specs.declared.replay.machine.reply.LineAnswer.TheVariants as answer
use Rattle.service_descriptions.specs.declared.replay.machine.session.Earlier.{Earlier}
use Rattle.service_descriptions.specs.declared.replay.machine.session.Session.TheInside.{Inside}

-- a handle is the next one of its role
pub record IsNext (old new : Service) (h : Handle) : Type 0 where
  pub service : h.service ≡ old.nodes.registry.service
  pub ticket : h.ticket ≡ tickets_of old h.role
  pub given : h.ticket < tickets_of new h.role

-- a service goes on in each registry, and gives the next handle of a role, or none
pub record Moves (old new : Service) (given : Option Handle) : Type 0 where
  pub nodes : Grows old.nodes.registry new.nodes.registry
  pub first : Grows old.ports.first.registry new.ports.first.registry
  pub second : Grows old.ports.second.registry new.ports.second.registry
  pub tickets : (role : Role) → tickets_of old role ≤ tickets_of new role
  pub next : IfSome given (IsNext old new)

tickets_rise : (old new : Service) → Grows old.nodes.registry new.nodes.registry
    → Grows old.ports.first.registry new.ports.first.registry
    → Grows old.ports.second.registry new.ports.second.registry
    → (role : Role) → tickets_of old role ≤ tickets_of new role
tickets_rise old new n f s role.Node = n.used
tickets_rise old new n f s role.Publisher = f.used
tickets_rise old new n f s role.Listener = f.used
tickets_rise old new n f s role.Server = f.used
tickets_rise old new n f s role.Reader = f.used
tickets_rise old new n f s _ = s.used

moved : (old new : Service) (given : Option Handle) → Grows old.nodes.registry new.nodes.registry
    → Grows old.ports.first.registry new.ports.first.registry
    → Grows old.ports.second.registry new.ports.second.registry
    → IfSome given (IsNext old new) → Moves old new given
moved old new given n f s next =
    record { nodes = n; first = f; second = s; tickets = tickets_rise old new n f s; next = next }

pub still : (old new : Service) → new ≡ old → Moves old new None
still old new e =
    moved old new None (grows_same _ _ (ap (λ s. s.nodes.registry) e))
    (grows_same _ _ (ap (λ s. s.ports.first.registry) e))
    (grows_same _ _ (ap (λ s. s.ports.second.registry) e)) tt

-- only the nodes change
by_nodes : (old new : Service) (given : Option Handle) → new ≡ record old { nodes = new.nodes }
    → Grows old.nodes.registry new.nodes.registry → IfSome given (IsNext old new)
    → Moves old new given
by_nodes old new given e g next =
    moved old new given g (grows_same _ _ (ap (λ s. s.ports.first.registry) e))
    (grows_same _ _ (ap (λ s. s.ports.second.registry) e)) next

-- the ports of one kind change, and no node comes or goes
by_side : (side : Side) (old new : Service) (given : Option Handle)
    → new.nodes.registry ≡ old.nodes.registry
    → Grows (of_side side old.ports.first old.ports.second).registry
    (of_side side new.ports.first new.ports.second).registry
    → of_side (other_side side) new.ports.first new.ports.second
    ≡ of_side (other_side side) old.ports.first old.ports.second
    → IfSome given (IsNext old new) → Moves old new given
by_side First old new given e g others next =
    moved old new given (grows_same _ _ e) g
    (grows_same _ _ (ap (λ c. c.registry) others)) next
by_side Second old new given e g others next =
    moved old new given (grows_same _ _ e)
    (grows_same _ _ (ap (λ c. c.registry) others)) g next

side_tickets : (side : Side) (s : Service) (k : PatternKind)
    → tickets_of s (role_at k side) ≡ (of_side side s.ports.first s.ports.second).registry.used
side_tickets First s kind.PublishSubscribe = refl
side_tickets First s _ = refl
side_tickets Second s kind.PublishSubscribe = refl
side_tickets Second s _ = refl

-- the handle of an add to a registry is the next one of its role
next_of : {T : Type 0} (old new : Service) (before after : RegistryState T) (role : Role) (x : T)
    (h : Handle) → before.service ≡ old.nodes.registry.service → before.role ≡ role
    → tickets_of old role ≡ before.used → tickets_of new role ≡ after.used
    → AddStep before x (Ok h) after → IsNext old new h
next_of old new before after role x h number is used used' s =
    let ticket = ap (λ k. k.ticket) s.2.0 in
    let of_role : h.role ≡ role = ap (λ k. k.role) s.2.0 ∙ is in
    record {
      service = ap (λ k. k.service) s.2.0 ∙ number;
      ticket = ticket ∙ sym (ap (tickets_of old) of_role ∙ used);
      given = subst (λ k. h.ticket < k) (sym (ap (tickets_of new) of_role ∙ used'))
          (omega (arith, ticket, ap (λ r. r.used) s.2.3));
    }

registers : (old : Service) (id : ℕ) (r : Reply) (new : Service) → IsService old
    → ServesRegister old id r new → Moves old new (handle_in r)
registers old id (reply.Handle h) new i s =
    by_nodes old new (Some h) s.1 (grows_add _ id (Ok h) _ s.0.step)
    (next_of old new old.nodes.registry new.nodes.registry role.Node id h refl i.role_is refl refl
    s.0.step)
registers old id reply.Locked new i s =
    by_nodes old new None s.1 (grows_add _ id (Err container.IsLocked) _ s.0.step) tt
registers old id reply.Full new i s =
    by_nodes old new None s.1 (grows_add _ id (Err container.OutOfSpace) _ s.0.step) tt
registers old id _ new i s = absurd s

deregisters : (old : Service) (handle : Option Handle) (r : Reply) (new : Service)
    → ServesDeregister old handle r new → Moves old new (handle_in r)
deregisters old None reply.NoHandle new s = still old new s
deregisters old (Some h) reply.HasOwners new s =
    by_nodes old new None s.4 (grows_remove _ h LockIfLastIndex (Ok Unlocked) _ s.3.step) tt
deregisters old (Some h) reply.NoMoreOwners new s =
    by_nodes old new None s.4 (grows_remove _ h LockIfLastIndex (Ok Locked) _ s.3.step) tt
deregisters old (Some h) reply.PortsAttached new s = still old new s.3
deregisters old (Some h) reply.NotOwned new s = still old new s.1
deregisters old _ _ new s = absurd s

-- a port was added to one of the registries, or to none
adds_port : (old : Service) (details : PortDetails) (answer : Result Handle ContainerAddFailure)
    (new : Service) (given : Option Handle) → AddsPort old details answer new
    → IfSome given (IsNext old new) → Moves old new given
adds_port old details answer new given (a, e) next =
    by_side a.side old new given (ap (λ s. s.nodes.registry) e)
    (grows_add _ details answer _ a.step.step) a.others next

ports_at : (side : Side) (s : Service) → IsService s
    → IsPortRegistry s.nodes.registry (role_at s.pattern side)
    (of_side side s.ports.first s.ports.second).registry
ports_at First s i = i.ports_are.first
ports_at Second s i = i.ports_are.second

next_port : (old : Service) (details : PortDetails) (h : Handle) (new : Service) → IsService old
    → AddsPort old details (Ok h) new → IsNext old new h
next_port old details h new i (a, e) =
    let ports = ports_at a.side old i in
    next_of old new _ _ (role_at old.pattern a.side) details h ports.number_is ports.role_is
    (side_tickets a.side old old.pattern) (side_tickets a.side new old.pattern) a.step.step

attaches : (old : Service) (details : PortDetails) (r : Reply) (new : Service) → IsService old
    → ServesAdd old details r new → Moves old new (handle_in r)
attaches old details (reply.Handle h) new i s =
    adds_port old details (Ok h) new (Some h) s.1.1 (next_port old details h new i s.1.1)
attaches old details reply.Locked new i s = still old new s.1.1
attaches old details reply.NotRegistered new i s = still old new s.1.2
attaches old details reply.Full new i s =
    adds_port old details (Err container.OutOfSpace) new None s.1.1 tt
attaches old details reply.WrongPattern new i s = still old new s.1
attaches old details _ new i s = absurd s

removes_port : (old : Service) (handle : Handle) (answer : Result ReleaseState ContainerRemoveError)
    (new : Service) → RemovesPort old handle answer new → Moves old new None
removes_port old handle answer new (inl a, e) =
    by_side a.side old new None (ap (λ s. s.nodes.registry) e)
    (grows_remove _ handle Default answer _ a.step.step) a.others tt
removes_port old handle answer new (inr a, e) =
    still old new (e ∙ ap (λ p. record old { ports = p }) a.2)

releases : (old : Service) (handle : Option Handle) (r : Reply) (new : Service)
    → ServesRelease old handle r new → Moves old new (handle_in r)
releases old None reply.NoHandle new s = still old new s
releases old (Some h) reply.Released new s = removes_port old h (Ok s.0) new s.1
releases old (Some h) reply.NotOwned new s =
    removes_port old h (Err remove.ContainerHandleNotOwnedByContainer) new s
releases old _ _ new s = absurd s

nodes_grow : (dead : ℕ) (left : Bool) (old : ContainerState ℕ) (state : ReleaseState)
    (new : ContainerState ℕ) → NodesAfter dead left old state new
    → Grows old.registry new.registry
nodes_grow dead true old state new s =
    grows_same old.registry new.registry (ap (λ h. h.registry) s.1)
nodes_grow dead false old state new s =
    grows_recover (is_of (λ id. id) dead) s.step.marked old.registry LockIfLastIndex state
    new.registry s.step.recovers

cleans_up : (old : Service) (dead : ℕ) (cleanup : Cleanup) (answer : DeregisterNodeState)
    (new : Service) → CleanedUp old dead cleanup answer new → Moves old new None
cleans_up old dead cleanup answer new (left, step) =
    let first = step.ports.1 in
    let second = step.ports.2 in
    moved old new None
    (nodes_grow dead (has_ports_of dead new.ports) old.nodes (state_of answer) new.nodes step.nodes)
    (grows_recover (is_of node_of dead) first.1.step.marked _ Default first.0 _
    first.1.step.recovers)
    (grows_recover (is_of node_of dead) second.1.step.marked _ Default second.0 _
    second.1.step.recovers) tt

removes_dead : (old : Service) (dead : ℕ) (cleanup : Cleanup) (r : Reply) (new : Service)
    → ServesDead old dead cleanup r new → Moves old new (handle_in r)
removes_dead old dead cleanup reply.HasOwners new s = cleans_up old dead cleanup nodes.HasOwners new
    s
removes_dead old dead cleanup reply.NoMoreOwners new s = cleans_up old dead cleanup
    nodes.NoMoreOwners new s
removes_dead old dead cleanup _ new s = absurd s

-- nothing changes, and no handle is returned
replies_only : (old new : Service) (Reported : Reply → Type 0) (r : Reply)
    → ((h : Handle) → Reported (reply.Handle h) → ⊥) → Reported r × (new ≡ old)
    → Moves old new (handle_in r)
replies_only old new Reported (reply.Handle h) never s = absurd (never h s.0)
replies_only old new Reported _ never s = still old new s.1

no_handle : (answered : MessageTypeDetails → Reply → Type 0) (about : Option Description)
    (part : MessagePart) → ((d : MessageTypeDetails) (h : Handle) → answered d (reply.Handle h) → ⊥)
    → (h : Handle) → ServesMessages answered about part (reply.Handle h) → ⊥
no_handle answered None part never h s = (cc)
no_handle answered (Some description) part never h s =
    elim (details_in description.pattern part) as (λ found. MatchResult
    (ok_or found reply.WrongPattern) (λ d. answered d (reply.Handle h))
    (λ why. reply.Handle h ≡ why) → ⊥) [ None ↦ λ e. cc | Some d ↦ λ e. never d h e ] s

no_verdict : (required : Requirements) (about : Option Description) (h : Handle)
    → ServesVerify required about (reply.Handle h) → ⊥
no_verdict required None h s = (cc)
no_verdict required (Some description) h s = s

-- each reply gives its handle
pub moves : (old : Service) (about : Option Description) (handles : List (Option Handle))
    (c : Command) (r : Reply) (new : Service) → IsService old → Serves old about handles c r new
    → Moves old new (handle_in r)
moves old about handles (command.Register id) r new i s = registers old id r new i s
moves old about handles (command.Deregister k) r new i s =
    deregisters old (named handles k) r new s
moves old about handles command.Nodes r new i s = replies_only old new (ServesNodes old) r (λ h t.
    t) s
moves old about handles (command.Add details) r new i s = attaches old details r new i s
moves old about handles (command.Release k) r new i s = releases old (named handles k) r new s
moves old about handles (command.List role) r new i s =
    replies_only old new (ServesList old role) r (λ h t. t) s
moves old about handles (command.Count role) r new i s =
    replies_only old new (ServesCount old role) r (λ h t. t) s
moves old about handles (command.Dead dead cleanup) r new i s = removes_dead old dead cleanup r new
    s
moves old about handles (command.Verify required) r new i s =
    replies_only old new (ServesVerify required about) r (no_verdict required about) s
moves old about handles (command.Layout part n) r new i s =
    replies_only old new (ServesMessages (ServesLayout n) about part) r
    (no_handle (ServesLayout n) about part (λ d h t. t)) s
moves old about handles (command.Places part header) r new i s =
    replies_only old new (ServesMessages (ServesPlaces header) about part) r
    (no_handle (ServesPlaces header) about part (λ d h t. t)) s
moves old about handles (command.Compatible part opener) r new i s =
    replies_only old new (ServesMessages (ServesCompatible opener) about part) r
    (no_handle (ServesCompatible opener) about part (λ d h t. t)) s

still_given : (old new : Service) (given g : Option Handle) → Moves old new given → IsGiven old g
    → IsGiven new g
still_given old new given None m k = tt
still_given old new given (Some g) m k = omega (arith, k, m.tickets g.role)

is_given : (old new : Service) (given : Option Handle) → IfSome given (IsNext old new)
    → IsGiven new given
is_given old new None n = tt
is_given old new (Some h) n = n.given

-- the next handle has a ticket of its own
differs : (old new : Service) (given g : Option Handle) → IfSome given (IsNext old new)
    → IsGiven old g → Differ g given
differs old new given None n k = tt
differs old new None (Some g) n k = tt
differs old new (Some h) (Some g) n k = λ e.
    let ticket : g.ticket ≡ h.ticket = ap (λ (x : Handle). x.ticket) e in
    let tickets : tickets_of old g.role ≡ tickets_of old h.role =
    ap (λ (x : Handle). tickets_of old x.role) e in
    absurd (omega (arith, ticket, tickets, n.ticket, k))

pub keeps : (old new : Service) (handles : List (Option Handle)) (given : Option Handle)
    → Moves old new given → KeepsHandles old handles → KeepsHandles new (handles ++ given ∷ [])
keeps old new handles given m k = record {
  given = All-push (IsGiven new) handles given
      (All-weaker (IsGiven old) (IsGiven new) (λ g. still_given old new given g m) handles k.given)
      (is_given old new given m.next);
  differ = all_pairs_push Differ handles given k.differ
      (All-weaker (IsGiven old) (λ g. Differ g given) (λ g. differs old new given g m.next) handles
      k.given);
}

next_number : (number : ℕ) (old new : Service) (given : Option Handle)
    → old.nodes.registry.service ≡ number → IfSome given (IsNext old new)
    → IfSome given (λ h. h.service ≡ number)
next_number number old new None is n = tt
next_number number old new (Some h) is n = n.service ∙ is

-- the fields after a command
abbrev pub after : Inside → Service → Vec Earlier → Inside
after old service earlier = record old { service = service; earlier = earlier }

module _ (about : Option Description) (old : Inside) (service : Service) (earlier : Vec Earlier)
    (cell : Earlier) (given : Option Handle)
    (reported : (n : ℕ) → IfSome given (λ h. h.service ≡ n) → handle_at n cell ≡ given)
    (more : earlier.items ≡ old.earlier.items ++ cell ∷ []) (sound : IsSound old)
    (is_service : IsService service) (m : Moves old.service service given) where
  -- the fields after a service moved on
  abbrev new : Inside
  new = after old service earlier

  noted_more : handles_in old.number earlier.items
      ≡ handles_in old.number old.earlier.items ++ given ∷ []
  noted_more =
      let stands : handle_at old.number cell ≡ given =
      reported old.number
      (next_number old.number old.service service given sound.number_is m.next) in
      ap (λ (es : List Earlier). handles_in old.number es) more
      ∙ map-append (handle_at old.number) old.earlier.items (cell ∷ [])
      ∙ ap (λ (h : Option Handle). handles_in old.number old.earlier.items ++ h ∷ []) stands

  noted_kept : KeepsHandles service (handles_in old.number earlier.items)
  noted_kept =
      subst (λ hs. KeepsHandles service hs) (sym noted_more)
      (keeps old.service service (handles_in old.number old.earlier.items) given m sound.keeps)

  -- they are sound
  pub noted : IsSound new
  noted =
      record {
        is_service = is_service;
        number_is = m.nodes.service ∙ sound.number_is;
        keeps = noted_kept;
      }

  -- and it was a step, where a reply may be given with this handle
  pub stepped : (c : Command) (r : Reply) → handle_in r ≡ given
      → Serves old.service about (handles_in old.number old.earlier.items) c r service
      → ServiceStep (described (session_of old) about) c r (described (session_of new) about)
  stepped c r is s =
      let state : List (Option Handle) → State =
      λ hs. record { service = service; description = about; handles = hs } in
      let same : given ≡ handle_in r = sym is in (
        s,
        ap state (noted_more
            ∙ ap (λ (h : Option Handle). handles_in old.number old.earlier.items ++ h ∷ []) same),
        record { is_service = is_service; differ = noted_kept.differ },
      )

-- the fields after a command are sound, and it was a step
pub served : (about : Option Description) (old : Inside) (service : Service) (earlier : Vec Earlier)
    (cell : Earlier) (c : Command) (r : Reply) → IsSound old → IsService service
    → Serves old.service about (handles_in old.number old.earlier.items) c r service
    → ((n : ℕ) → IfSome (handle_in r) (λ h. h.service ≡ n) → handle_at n cell ≡ handle_in r)
    → earlier.items ≡ old.earlier.items ++ cell ∷ []
    → IsSound (after old service earlier)
    × ServiceStep (described (session_of old) about) c r
    (described (session_of (after old service earlier)) about)
served about old service earlier cell c r sound is_service s reported more =
    let handles = handles_in old.number old.earlier.items in
    let m = moves old.service about handles c r service sound.is_service s in (
      noted about old service earlier cell (handle_in r) reported more sound is_service m,
      stepped about old service earlier cell (handle_in r) reported more sound is_service m c r
          refl s,
    )

-- what sound fields stand for is a state
pub sound_state : (s : Inside) → IsSound s → IsState (session_of s)
sound_state s sound = record { is_service = sound.is_service; differ = sound.keeps.differ }

-- how a service answers a command that has a line: where it is listed, it stays the same
abbrev pub ServesLine : Service → Option Description → List (Option Handle) → Command → LineAnswer
    → Service → Type 0
ServesLine old about handles c (answer.Reply r) new = Serves old about handles c (reply_of r) new
ServesLine old about handles c answer.Nodes new = (c ≡ command.Nodes) × (new ≡ old)
ServesLine old about handles c (answer.Ports role) new = (c ≡ command.List role) × (new ≡ old)

-- an answer moves a service on
line_moves : (old : Service) (about : Option Description) (handles : List (Option Handle))
    (c : Command) (a : LineAnswer) (new : Service) → IsService old
    → ServesLine old about handles c a new → Moves old new (handle_given a)
line_moves old about handles c (answer.Reply r) new i s =
    moves old about handles c (reply_of r) new i s
line_moves old about handles c answer.Nodes new i s = still old new s.1
line_moves old about handles c (answer.Ports role) new i s = still old new s.1

-- what stands for a list gives no handle
no_handle_of_nodes : (s : Service) (r : Reply) → ServesNodes s r → handle_in r ≡ None
no_handle_of_nodes s (reply.Nodes ids) so = refl
no_handle_of_nodes s _ so = absurd so

no_handle_of_ports : (s : Service) (role : Role) (r : Reply) → ServesList s role r
    → handle_in r ≡ None
no_handle_of_ports s role (reply.Ports ports) so = refl
no_handle_of_ports s role reply.WrongPattern so = refl
no_handle_of_ports s role _ so = absurd so

-- each reply that an answer stands for has its handle, and may be given
line_serves : (old : Service) (about : Option Description) (handles : List (Option Handle))
    (c : Command) (a : LineAnswer) (new : Service) → ServesLine old about handles c a new
    → (r : Reply) → StandsFor new a r → (handle_in r ≡ handle_given a)
    × Serves old about handles c r new
line_serves old about handles c (answer.Reply x) new s r so =
    (ap handle_in so, subst (λ (y : Reply). Serves old about handles c y new) (sym so) s)
line_serves old about handles c answer.Nodes new s r so = (
  no_handle_of_nodes new r so,
  subst (λ (d : Command). Serves old about handles d r new) (sym s.0)
      (subst (λ (t : Service). ServesNodes t r) s.1 so, s.1),
)
line_serves old about handles c (answer.Ports role) new s r so = (
  no_handle_of_ports new role r so,
  subst (λ (d : Command). Serves old about handles d r new) (sym s.0)
      (subst (λ (t : Service). ServesList t role r) s.1 so, s.1),
)

-- the fields after a command that has a line are sound, and it was a step with each such reply
pub served_line : (old : Inside) (service : Service) (earlier : Vec Earlier) (cell : Earlier)
    (c : Command) (a : LineAnswer) → IsSound old → IsService service
    → ServesLine old.service None (handles_in old.number old.earlier.items) c a service
    → ((n : ℕ) → IfSome (handle_given a) (λ h. h.service ≡ n) → handle_at n cell ≡ handle_given a)
    → earlier.items ≡ old.earlier.items ++ cell ∷ []
    → IsSound (after old service earlier)
    × LineStep (session_of old) c a (session_of (after old service earlier))
served_line old service earlier cell c a sound is_service s reported more =
    let handles = handles_in old.number old.earlier.items in
    let m = line_moves old.service None handles c a service sound.is_service s in (
      noted None old service earlier cell (handle_given a) reported more sound is_service m,
      λ r so.
          let may = line_serves old.service None handles c a service s r so in
          stepped None old service earlier cell (handle_given a) reported more sound is_service m c
          r
          may.0 may.1,
    )

-- what is replied where entries of a node were removed
pub deregister_served : (old new : Service) (handle : Handle) (state : DeregisterNodeState)
    (r : Reply) → r ≡ reply_of_owners state → DeregisterStep old handle (Ok state) new
    → ServesDeregister old (Some handle) r new
deregister_served old new handle nodes.HasOwners r e s = rw e s
deregister_served old new handle nodes.NoMoreOwners r e s = rw e s

pub dead_served : (old new : Service) (dead : ℕ) (cleanup : Cleanup) (state : DeregisterNodeState)
    (r : Reply) → r ≡ reply_of_owners state → CleanedUp old dead cleanup state new
    → ServesDead old dead cleanup r new
dead_served old new dead cleanup nodes.HasOwners r e s = rw e s
dead_served old new dead cleanup nodes.NoMoreOwners r e s = rw e s
