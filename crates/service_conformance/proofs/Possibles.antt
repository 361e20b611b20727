-- The replies to adds, of a node or a port, and to their removals.
use Rattle.service_conformance.proofs.Names.{Bool, None, Ok, Option, Some, false, refl, subst, sym, true, ℕ, ◌∙◌, ◌≡◌, Err, Result, arith, AddStep, Allows, ArePossible, quiet, ContainerAddFailure, IsFull, IsLocked, IsSameReply, IsService, LineReply, OutOfSpace, Refuses, Reply, ServesRegister, Service, TakesEntry, container, possible_add, reply_in, Adds, AddsPort, Handle, HasRole, IsOpenFor, PortDetails, ServesAdd, Side, entries_of_node, node_of, part_at, ports_at, role_at, role_of, with_ports_at, List, ap, eq-eqb, length, nat_eq, ne_eqb, suc, zero, ◌+◌, false_from_ne_true, inl, inr, DeregisterNodeState, Entry, HasEntry, InsertsOne, IsRegistry, IsUnknownHandle, LockIfLastIndex, RegistryState, ReleaseState, RemoveStep, Removes, ServesDeregister, is_last_of_ports, lock_after, release_state, reply_of_owners, reply_of_state, state_of, with_left, ContainerHandleNotOwnedByContainer, ContainerRemoveError, Default, RemovesFrom, RemovesPort, ServesRelease, first_role, second_role}
use Rattle.iox2_dynamic.proofs.Keeping.{register_kept, leaving_kept, attach_kept, release_kept}
use Rattle.service_descriptions.specs.declared.replay.machine.reply.Reply.TheVariants as reply
use Rattle.service_conformance.specs.declared.conformance.possible.Part.TheVariants as part
use Rattle.service_conformance.specs.declared.conformance.line_reply.LineReply.TheVariants as line
use Rattle.service_conformance.specs.declared.conformance.seen_reply.ReplyWord.TheVariants as word
use Rattle.service_conformance.specs.declared.conformance.possible.Possible.TheVariants as possible
use Rattle.service_conformance.proofs.Registries.{can_give, no_room, was_given, can_remove}
use Rattle.service_conformance.proofs.Quiet.{untouching}
use Rattle.service_conformance.proofs.Taking.{given_at, has_role, lacks, may_give_at, ports_are, steps_at, Takes, taken_at}
use Rattle.service_conformance.proofs.Taking.Place.{of_ports}
use Rattle.iox2_container.specs.declared.container.registry.ReleaseState.TheVariants as state
use Rattle.iox2_container.proofs.Lists.{length-InsertsOne, one_by_ticket}
use Rattle.iox2_container.proofs.Keeping.{not_foreign}
use Rattle.iox2_dynamic.specs.declared.dynamic_config.answers.DeregisterNodeState.TheVariants as nodes

pub not_both : (b : Bool) → b ≡ true → b ≡ false → ⊥
not_both b t f = (let z : true ≡ false = sym t ∙ f in cc)

-- one reply that is no list
pub alone : (s : Service) (Step : Reply → Service → Type 0) (one : LineReply) (new : Service)
    → ((r : Reply) → IsSameReply (reply_in one) r ≡ (reply_in one ≡ r)) → Step (reply_in one) new
    → IsService new → ((r : Reply) (new : Service) → Step r new → reply_in one ≡ r)
    → ArePossible s Step (possible.One one)
alone s Step one new plain step kept only = grind arith

node_locked : (s : Service) (id : ℕ) → s.nodes.registry.locked ≡ true → (r : Reply) (new : Service)
    → ServesRegister s id r new → reply.Locked ≡ r
node_locked s id l reply.Locked new so = refl
node_locked s id l _ new so = grind (arith, not_both)

node_full : (s : Service) (id : ℕ) → s.nodes.registry.locked ≡ false → IsFull s.nodes.registry
    → (r : Reply) (new : Service) → ServesRegister s id r new → reply.Full ≡ r
node_full s id l full reply.Full new so = refl
node_full s id l full _ new so = grind (arith, not_both, no_room)

node_given : (s : Service) (id : ℕ) → TakesEntry s.nodes.registry → (r : Reply) (new : Service)
    → ServesRegister s id r new → IsService new → Allows s (possible.Given part.Nodes) r
node_given s id takes (reply.Handle h) new so k =
    (h, refl, was_given s.nodes.registry new.nodes.registry id h so.0.step so.0.kept)
node_given s id takes _ new so k = grind (arith, not_both, no_room)

pub registers : (s : Service) (id : ℕ) (why : Option ContainerAddFailure) → IsService s
    → Refuses s.nodes.registry why
    → ArePossible s (ServesRegister s id) (possible_add why part.Nodes)
registers s id None i takes = record {
  can = λ r a.
      let given = can_give s.nodes.registry id a.0 i.nodes_are takes a.2 in
      let adds = untouching _ s.nodes given.0 given.1 given.2 in
      let nodes = container given.0 s.nodes.touches in (
        record s { nodes = nodes },
        subst (λ r. ServesRegister s id r (record s { nodes = nodes })) (sym a.1) (adds, refl),
        register_kept s nodes id (Ok a.0) adds i,
      );
  only = node_given s id takes;
}
registers s id (Some IsLocked) i l = grind (arith, alone, untouching, node_locked)
registers s id (Some OutOfSpace) i (l, full) = grind (arith, alone, untouching, node_full)

module _ (s : Service) (d : PortDetails) where
  locked_only : HasRole s.pattern (role_of d) → s.nodes.registry.locked ≡ true → (r : Reply)
      (new : Service) → ServesAdd s d r new → reply.Locked ≡ r
  locked_only has l reply.Locked new so = refl
  locked_only has l _ new so = grind (arith, not_both, lacks)

  pub locked : IsService s → HasRole s.pattern (role_of d) → s.nodes.registry.locked ≡ true
      → ArePossible s (ServesAdd s d) (possible.One (line.Word word.Locked))
  locked i has l =
      alone _ _ (line.Word word.Locked) s (λ r. refl) (has, (l, refl)) i (locked_only has l)

  unregistered_only : HasRole s.pattern (role_of d) → s.nodes.registry.locked ≡ false
      → entries_of_node (node_of d) s.nodes.registry ≡ 0 → (r : Reply) (new : Service)
      → ServesAdd s d r new → reply.NotRegistered ≡ r
  unregistered_only has l n reply.NotRegistered new so = refl
  unregistered_only has l n _ new so = grind (arith, not_both, lacks)

  pub unregistered : IsService s → HasRole s.pattern (role_of d)
      → s.nodes.registry.locked ≡ false → entries_of_node (node_of d) s.nodes.registry ≡ 0
      → ArePossible s (ServesAdd s d) (possible.One (line.Word word.NotRegistered))
  unregistered i has l n = grind (arith, alone, unregistered_only)

  module _ (side : Side) (role : role_of d ≡ role_at s.pattern side)
      (opens : IsOpenFor s (node_of d)) where
    -- the add to the registry of the side
    pub adds_at : (answer : Result Handle ContainerAddFailure) (new : Service)
        → AddsPort s d answer new
        → Takes (of_ports side) (λ r m. AddStep r d answer m) s (quiet new)
    adds_at answer new a = taken_at _ (role_of d) s new a.0 a.1 side role

    full_only : IsFull (ports_at s side).registry → (r : Reply) (new : Service)
        → ServesAdd s d r new → reply.Full ≡ r
    full_only full (reply.Handle h) new so =
        absurd (no_room (ports_at s side).registry full (adds_at (Ok h) new so.1.1).step.1)
    full_only full reply.Locked new so = absurd (not_both s.nodes.registry.locked so.1.0 opens.0)
    full_only full reply.NotRegistered new so = absurd (omega (arith, opens.1, so.1.1))
    full_only full reply.Full new so = refl
    full_only full reply.WrongPattern new so =
        absurd (lacks s.pattern (role_of d) so.0 (has_role s.pattern side (role_of d) role))
    full_only full _ new so = absurd so

    given_only : TakesEntry (ports_at s side).registry → (r : Reply) (new : Service)
        → ServesAdd s d r new → IsService new → Allows s (possible.Given (part_at side)) r
    given_only takes (reply.Handle h) new so k =
        let a = adds_at (Ok h) new so.1.1 in (
          h,
          refl,
          given_at s side h
              (was_given (ports_at s side).registry a.registry d h a.step a.whole),
        )
    given_only takes reply.Locked new so k =
        absurd (not_both s.nodes.registry.locked so.1.0 opens.0)
    given_only takes reply.NotRegistered new so k = absurd (omega (arith, opens.1, so.1.1))
    given_only takes reply.Full new so k = grind (arith, no_room, adds_at)
    given_only takes reply.WrongPattern new so k =
        absurd (lacks s.pattern (role_of d) so.0 (has_role s.pattern side (role_of d) role))
    given_only takes _ new so k = absurd so

    pub attaches : (why : Option ContainerAddFailure) → IsService s
        → Refuses (ports_at s side).registry why
        → ArePossible s (ServesAdd s d) (possible_add why (part_at side))
    attaches None i takes = record {
      can = λ r a.
          let old = ports_at s side in
          let given =
          can_give old.registry d a.0 (ports_are s side i).is_registry takes
          (may_give_at s side a.0 a.2) in
          let ports = with_ports_at side s.ports (container given.0 old.touches) in
          let adds =
          steps_at s.pattern side s.ports (role_of d) (λ o n. Adds o d (Ok a.0) n)
          (container given.0 old.touches) role (untouching _ old given.0 given.1 given.2) in (
            record s { ports = ports },
            subst (λ r. ServesAdd s d r (record s { ports = ports })) (sym a.1)
                (has_role s.pattern side (role_of d) role, (opens, (adds, refl))),
            attach_kept s (record s { ports = ports }) d (Ok a.0) (opens, (adds, refl)) i,
          );
      only = given_only takes;
    }
    attaches (Some IsLocked) i l =
        absurd (not_both (ports_at s side).registry.locked l (ports_are s side i).is_open)
    attaches (Some OutOfSpace) i (l, full) =
        grind (arith, steps_at, untouching, ports_are, alone, has_role, attach_kept, full_only)

-- the entry of a handle is one
pub one_details : {T : Type 0} (r : RegistryState T) (h : Handle) (a b : T) → IsRegistry r
    → HasEntry r h a → HasEntry r h b → a ≡ b
one_details {T} r h a b k m n =
    let same : n.0 ≡ m.0 =
    one_by_ticket r.entries m.3.0 n.3.0 m.0 n.0 k.tickets_differ m.3.1 n.3.1
    (ap (λ (h : Handle). h.ticket) (sym m.1 ∙ n.1)) in
    sym m.2 ∙ (ap (λ (e : Entry T). e.details) (sym same) ∙ n.2)

-- what has an entry is not locked
pub was_open : {T : Type 0} (r : RegistryState T) (n : ℕ) → IsRegistry r → length r.entries ≡ n + 1
    → r.locked ≡ false
was_open r n k e = grind (arith, false_from_ne_true)

last_locks : (before left : ℕ) (locked : Bool) → before ≡ left + 1 → locked ≡ false
    → lock_after LockIfLastIndex before left locked ≡ nat_eq before 1
last_locks zero left locked e l = absurd (omega arith)
last_locks (suc before) zero locked e l = sym (eq-eqb (suc before) 1 (omega arith))
last_locks (suc before) (suc left) locked e l =
    l ∙ sym (ne_eqb (suc before) 1 (λ q. absurd (omega (arith, q))))

-- a node's entry that goes locks where it is the last
pub locks : {T : Type 0} (r : RegistryState T) (rest : List (Entry T)) (x : Entry T) → IsRegistry r
    → InsertsOne rest r.entries x
    → (with_left r LockIfLastIndex rest).locked ≡ nat_eq (length r.entries) 1
locks r rest x k g =
    let one = length-InsertsOne rest r.entries x g in
    last_locks (length r.entries) (length rest) r.locked one (was_open r (length rest) k one)

-- one reply says whether a service is locked
pub owned : (b : Bool) (n : DeregisterNodeState) → state_of n ≡ release_state b
    → reply_in (reply_of_owners b) ≡ reply_of_state n
owned true nodes.HasOwners e =
    absurd (let z : ◌≡◌ {A = ReleaseState} state.Unlocked state.Locked = e in cc)
owned true nodes.NoMoreOwners e = refl
owned false nodes.HasOwners e = refl
owned false nodes.NoMoreOwners e =
    absurd (let z : ◌≡◌ {A = ReleaseState} state.Locked state.Unlocked = e in cc)

module _ (s : Service) (h : Handle) where
  unknown_only : IsUnknownHandle s.nodes.registry h → (r : Reply) (new : Service)
      → ServesDeregister s (Some h) r new → reply.NotOwned ≡ r
  unknown_only u reply.HasOwners new so = absurd (not_foreign s.nodes.registry h so.0 so.1 u)
  unknown_only u reply.NoMoreOwners new so = absurd (not_foreign s.nodes.registry h so.0 so.1 u)
  unknown_only u reply.PortsAttached new so = absurd (not_foreign s.nodes.registry h so.0 so.1 u)
  unknown_only u reply.NotOwned new so = refl
  unknown_only u _ new so = absurd so

  pub unknown : IsService s → IsUnknownHandle s.nodes.registry h
      → ArePossible s (ServesDeregister s (Some h)) (possible.One (line.Word word.NotOwned))
  unknown i u =
      alone _ _ (line.Word word.NotOwned) s (λ r. refl) (u, refl) i (unknown_only u)

  module _ (i : IsService s) (id : ℕ) (has : HasEntry s.nodes.registry h id) where
    -- whether it is the last of its node's ports, for whom it is named
    last_is : (b : Bool) (other : ℕ) → HasEntry s.nodes.registry h other
        → is_last_of_ports other s ≡ b
        → is_last_of_ports id s ≡ b
    last_is b other m e =
        ap (λ k. is_last_of_ports k s) (one_details s.nodes.registry h id other i.nodes_are has m)
        ∙ e

    attached_only : is_last_of_ports id s ≡ true → (r : Reply) (new : Service)
        → ServesDeregister s (Some h) r new → reply.PortsAttached ≡ r
    attached_only l reply.HasOwners new so = absurd (not_both _ l (last_is false so.0 so.1 so.2))
    attached_only l reply.NoMoreOwners new so = absurd (not_both _ l (last_is false so.0 so.1 so.2))
    attached_only l reply.PortsAttached new so = refl
    attached_only l reply.NotOwned new so = absurd (not_foreign s.nodes.registry h id has so.0)
    attached_only l _ new so = absurd so

    pub attached : is_last_of_ports id s ≡ true
        → ArePossible s (ServesDeregister s (Some h)) (possible.One (line.Word word.PortsAttached))
    attached l = grind (arith, alone, attached_only)

    -- the answer is by the lock
    answered : (n : DeregisterNodeState) (new : RegistryState ℕ)
        → RemoveStep s.nodes.registry h LockIfLastIndex (Ok (state_of n)) new
        → state_of n ≡ release_state (nat_eq (length s.nodes.registry.entries) 1)
    answered n new step =
        step.1 ∙ ap release_state (ap (λ (r : RegistryState ℕ). r.locked) step.0.3
        ∙ locks s.nodes.registry new.entries step.0.0 i.nodes_are step.0.2)

    owners_only : (b : Bool) → b ≡ nat_eq (length s.nodes.registry.entries) 1
        → is_last_of_ports id s ≡ false → (r : Reply) (new : Service)
        → ServesDeregister s (Some h) r new → reply_in (reply_of_owners b) ≡ r
    owners_only b e l reply.HasOwners new so =
        owned b nodes.HasOwners
        (answered nodes.HasOwners new.nodes.registry so.3.step ∙ ap release_state (sym e))
    owners_only b e l reply.NoMoreOwners new so =
        owned b nodes.NoMoreOwners
        (answered nodes.NoMoreOwners new.nodes.registry so.3.step ∙ ap release_state (sym e))
    owners_only b e l reply.PortsAttached new so =
        absurd (not_both _ (last_is true so.0 so.1 so.2) l)
    owners_only b e l reply.NotOwned new so = absurd (not_foreign s.nodes.registry h id has so.0)
    owners_only b e l _ new so = absurd so

    pub leaves : (b : Bool) → b ≡ nat_eq (length s.nodes.registry.entries) 1
        → is_last_of_ports id s ≡ false
        → ArePossible s (ServesDeregister s (Some h)) (possible.One (reply_of_owners b))
    leaves b e l =
        let old = s.nodes in
        let gone = can_remove old.registry h LockIfLastIndex id i.nodes_are has in
        let left = with_left old.registry LockIfLastIndex has.3.0 in
        let locked : left.locked ≡ b =
        locks old.registry has.3.0 has.0 i.nodes_are has.3.1 ∙ sym e in
        let new : Service = record s { nodes = container left old.touches } in
        let kept = leaving_kept s (container left old.touches) h id has l gone.0.0 gone.1 i in
        let leaves : (state : ReleaseState) → state ≡ release_state left.locked
        → Removes old h LockIfLastIndex (Ok state) (container left old.touches) =
        λ state same. untouching _ old left (gone.0.0, same) gone.1 in
        (elim b as
        (λ b. left.locked ≡ b → b ≡ nat_eq (length s.nodes.registry.entries) 1
        → ArePossible s (ServesDeregister s (Some h)) (possible.One (reply_of_owners b))) [
          | true ↦ λ k e. alone _ _ (line.Word word.NoMoreOwners) new (λ r. refl)
              (id, has, l, leaves _ (sym (ap release_state k)), refl) kept
              (owners_only true e l)
          | false ↦ λ k e. alone _ _ (line.Word word.HasOwners) new (λ r. refl)
              (id, has, l, leaves _ (sym (ap release_state k)), refl) kept
              (owners_only false e l)
        ]) locked e

module _ (s : Service) (h : Handle) where
  module _ (side : Side) (role : h.role ≡ role_at s.pattern side) where
    -- the removal from the registry of the side
    pub removes_at : (answer : Result ReleaseState ContainerRemoveError) (new : Service)
        → RemovesPort s h answer new
        → Takes (of_ports side) (λ r m. RemoveStep r h Default answer m) s (quiet new)
    removes_at answer new (inl a, e) = taken_at _ h.role s new a e side role
    removes_at answer new (inr a, e) =
        absurd (lacks s.pattern h.role a.0 (has_role s.pattern side h.role role))

    unreleased_only : IsUnknownHandle (ports_at s side).registry h → (r : Reply) (new : Service)
        → ServesRelease s (Some h) r new → reply.NotOwned ≡ r
    unreleased_only u reply.Released new so =
        let gone = (removes_at (Ok so.0) new so.1).step.0 in
        absurd (not_foreign (ports_at s side).registry h gone.0.details
        (gone.0, gone.1, refl, (_, gone.2)) u)
    unreleased_only u reply.NotOwned new so = refl
    unreleased_only u _ new so = absurd so

    pub unreleased : IsService s → IsUnknownHandle (ports_at s side).registry h
        → ArePossible s (ServesRelease s (Some h)) (possible.One (line.Word word.NotOwned))
    unreleased i u =
        grind (arith, steps_at, untouching, ports_are, alone, release_kept, unreleased_only)

    module _ (d : PortDetails) (has : HasEntry (ports_at s side).registry h d) where
      released_only : (r : Reply) (new : Service) → ServesRelease s (Some h) r new
          → reply.Released ≡ r
      released_only reply.Released new so = refl
      released_only reply.NotOwned new so =
          absurd (not_foreign (ports_at s side).registry h d has
          (removes_at (Err ContainerHandleNotOwnedByContainer) new so).step.0)
      released_only _ new so = absurd so

      pub released : IsService s
          → ArePossible s (ServesRelease s (Some h)) (possible.One (line.Word word.Released))
      released i =
          let old = ports_at s side in
          let gone = can_remove old.registry h Default d (ports_are s side i).is_registry has in
          let left = with_left old.registry Default has.3.0 in
          let ports = with_ports_at side s.ports (container left old.touches) in
          let answer : Result ReleaseState ContainerRemoveError = Ok (release_state left.locked) in
          let removes : RemovesFrom (first_role s.pattern)
          (second_role s.pattern) s.ports h answer ports =
          inl (steps_at s.pattern side s.ports h.role (λ o n. Removes o h Default answer n)
          (container left old.touches) role (untouching _ old left gone.0 gone.1)) in
          alone _ _ (line.Word word.Released) (record s { ports = ports }) (λ r. refl)
          (release_state left.locked, (removes, refl))
          (release_kept s s.pattern ports h answer refl removes i) released_only
