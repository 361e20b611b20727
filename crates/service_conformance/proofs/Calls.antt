-- What calls that were seen do.
use Rattle.service_conformance.proofs.Names.{All-push, All-weaker, AllocError, Contains, Contains-append_left, Contains-push, IfOk, List, None, Option, Result, Some, [], ap, arith, false, inl, inr, refl, subst, sym, true, ℕ, ◌++◌, ◌+◌, ◌<◌, ◌∙◌, ◌∷◌, ◌≡◌, ◌⊎◌, cases_lt, IfOk-weaker, All-cons, All-nil, All, get_or, length, ◌≢◌, all_pairs_push, AreAll, ArePossible, ArePossibleWords, AreRepliesOf, Call, CallStep, CanServe, ChangesNothing, Command, GivesBelow, Handle, IsIdleCall, IsSameReply, IsService, LeadsOn, LeadsTo, LineReply, MayGiveIn, Part, Possible, PossibleReplies, Reply, SeenReply, Serves, ServesCall, ServesDead, Service, ReadsReply, changes_nothing, handle_in, is_removal, quiet, reply_in, seen_text, text_of, AreEnough, AreGivenBelow, All-head, Ok, AddStep, Entry, RegistryState, ports_at, role_of, slot_entry, Cleanup, CanAsk, CanList, IsEither, IsNeither, Role, ServesCount, ServesList, first_role, is_query, second_role}
use Rattle.service_descriptions.specs.declared.replay.machine.command.Command.TheVariants as command
use Rattle.service_descriptions.specs.declared.replay.machine.reply.Reply.TheVariants as reply
use Rattle.service_conformance.specs.declared.conformance.possible.Possible.TheVariants as possible
use Rattle.service_conformance.proofs.Following.{attach_stays, deregister_stays, register_stays, release_stays}
use Rattle.service_conformance.proofs.Seen.{reported_nothing}
use Rattle.service_conformance.proofs.Words.{IsPlain, same_handle, same_or_plain, same_reply, neither}
use Rattle.std.proofs.lemmas.Bool.{cases_eq}
use Rattle.iox2_container.proofs.Lists.{All-back}
use Rattle.iox2_container.proofs.Keeping.{All-gain}
use Rattle.service_conformance.proofs.Taking.{its_ports, known_role, taken_at}

-- of a registry
one_added : {T : Type 0} (r n : RegistryState T) (d : T) (g h : Handle) → AddStep r d (Ok g) n
    → AddStep r d (Ok h) n → g.slot ≡ h.slot
one_added {T} r n d g h s t =
    elim (cases_eq g.slot h.slot) [
      | inl same ↦ same
      | inr ne ↦
          let Other : Entry T → Type 0 = λ e. e.slot ≢ h.slot in
          let x : Entry T = slot_entry g.slot r.used d in
          let y : Entry T = slot_entry h.slot r.used d in
          let all : All Other n.entries =
          All-gain Other r.entries n.entries x s.2.2 t.2.1 ne in
          let put = t.2.2 in
          absurd (All-head Other y put.after
          (All-back Other put.before (y ∷ put.after) (rw put.new_is at all)) refl)
    ]

-- with this handle the command leaves the state
abbrev pub LeavesWith : Service → List (Option Handle) → Command → Handle → Service → Type 0
LeavesWith s handles c h next =
    (mid : Service) × Serves s None handles c (reply.Handle h) mid × IsService mid
    × (quiet mid ≡ next)

pub one_slot : (s next : Service) (handles : List (Option Handle)) (c : Command)
    → (g h : Handle) → LeavesWith s handles c g next → LeavesWith s handles c h next
    → g.slot ≡ h.slot
one_slot s next handles (command.Register id) g h one other =
    let same : other.0.nodes.registry ≡ one.0.nodes.registry =
    ap (λ (w : Service). w.nodes.registry) (other.3 ∙ sym one.3) in
    one_added s.nodes.registry one.0.nodes.registry id g h one.1.0.step
    (rw same at other.1.0.step)
one_slot s next handles (command.Add d) g h one other =
    let a = one.1.1.1.0 in
    let side = a.side in
    let t = taken_at (λ r m. AddStep r d (Ok g) m) (role_of d) s one.0 a one.1.1.1.1 side
    a.role_is in
    let u = taken_at (λ r m. AddStep r d (Ok h) m) (role_of d) s other.0 other.1.1.1.0
    other.1.1.1.1 side a.role_is in
    let same : u.registry ≡ t.registry =
    sym (its_ports side s u.registry)
    ∙ (ap (λ (w : Service). (ports_at w side).registry)
    (sym u.left ∙ (other.3 ∙ (sym one.3 ∙ t.left))) ∙ its_ports side s t.registry) in
    one_added (ports_at s side).registry t.registry d g h t.step (rw same at u.step)
one_slot s next handles (command.Deregister k) g h one other = grind (arith, neither)
one_slot s next handles (command.Release k) g h one other = grind (arith, neither)
one_slot s next handles command.Nodes g h one other = absurd one.1.0
one_slot s next handles (command.List role) g h one other = absurd one.1.0
one_slot s next handles (command.Count role) g h one other = absurd one.1.0
one_slot s next handles (command.Dead dead cleanup) g h one other = absurd one.1
one_slot s next handles _ g h one other = absurd (let z = one.1.0 in cc)

pub all_of_one : {S : Type 0} (Fact : S → Type 0) (x : S) → Fact x
    → ((other : S) → Fact other → other ≡ x) → AreAll Fact (x ∷ [])
all_of_one {S} Fact x is alone =
    (All-cons Fact x [] is (All-nil Fact), λ value holds. (0, omega arith, sym (alone value holds)))

pub all_of_none : {S : Type 0} (Fact : S → Type 0) → ((x : S) → ¬ (Fact x)) → AreAll Fact []
all_of_none Fact none = (All-nil Fact, λ value holds. absurd (none value holds))

pub all_as : {S : Type 0} (Fact Other : S → Type 0) (xs : List S) → ((x : S) → Fact x → Other x)
    → ((x : S) → Other x → Fact x) → AreAll Fact xs → AreAll Other xs
all_as Fact Other xs there back all =
    (All-weaker Fact Other there xs all.0, λ x o. all.1 x (back x o))

pub enough_as : {S : Type 0} (Fact Other : S → Type 0) (xs : List S)
    → ((x : S) → Fact x → Other x) → ((x : S) → Other x → Fact x) → AreEnough Fact xs
    → AreEnough Other xs
enough_as Fact Other xs there back is = grind (arith, All-weaker, is)

all_and_one : {S : Type 0} (Fact Other : S → Type 0) (xs : List S) (x : S)
    → ((y : S) → Fact y → Other y) → Other x → ((y : S) → Other y → Fact y ⊎ (y ≡ x))
    → AreAll Fact xs → AreAll Other (xs ++ x ∷ [])
all_and_one {S} Fact Other xs x there is back all = (
  All-push Other xs x (All-weaker Fact Other there xs all.0) is,
  λ y o. found y (back y o),
)
  where
    found : (y : S) → Fact y ⊎ (y ≡ x) → Contains (xs ++ x ∷ []) y
    found y (inl f) = Contains-append_left xs (x ∷ []) y (all.1 y f)
    found y (inr e) = subst (Contains (xs ++ x ∷ [])) (sym e) (Contains-push xs x)

-- handles of one slot that a registry may give are the same
same_given : (s : Service) (p : Part) (h k : Handle) → MayGiveIn s p h → MayGiveIn s p k
    → h.slot ≡ k.slot → h ≡ k
same_given s _ h k m n e = grind (arith, same_handle)

-- a reply that gives no handle and is of no removal changes nothing
dead_any : (s mid : Service) (dead : ℕ) (cleanup : Cleanup) (r : Reply) → is_removal r ≡ false
    → ServesDead s dead cleanup r mid → quiet mid ≡ s
dead_any s mid dead cleanup _ e so = grind arith

stays : (s mid : Service) (handles : List (Option Handle)) (c : Command) (r : Reply)
    → quiet s ≡ s → handle_in r ≡ None → is_removal r ≡ false
    → Serves s None handles c r mid → quiet mid ≡ s
stays s mid handles _ r rest none e so =
    grind (arith, register_stays, deregister_stays, attach_stays, release_stays, dead_any)

module _ (call : Call) (s : Service) where
  leads_on : (r : Reply) (next : Service) → CanServe (ServesCall call s) r
      → LeadsTo (ServesCall call s) r next → LeadsOn call s r next
  leads_on r next can leads = (can.0, can.1, can.2, leads can.0 can.1)

  one_next : (r : Reply) (next other : Service) → LeadsTo (ServesCall call s) r next
      → LeadsOn call s r other → other ≡ next
  one_next r next other leads on = sym on.3 ∙ leads on.0 on.1

  module _ (is : IsService s) (rest : quiet s ≡ s) where
    nothing : (r : Reply) (next : Service) → IsPlain r → LeadsOn call s r next → next ≡ s
    nothing r next n on = grind (arith, stays)

    -- replies that are the same lead on to one service
    same_next : (r q : Reply) (next other : Service) → IsSameReply r q
        → LeadsTo (ServesCall call s) r next → LeadsOn call s r next → LeadsOn call s q other
        → other ≡ next
    same_next r q next other same leads first on = grind (arith, same_or_plain, one_next, nothing)

    module _ (p : Possible) (words : List ℕ) (has : call.words ≡ Some words)
        (all : ArePossible s (ServesCall call s) p) where
      pub seen_one : (r : Reply) (next : Service) → ReadsReply s p words (Some r)
          → LeadsTo (ServesCall call s) r next → AreAll (CallStep call s) (next ∷ [])
      seen_one r next reads leads =
          let first = leads_on r next (all.can r reads.0) leads in
          all_of_one (CallStep call s) next (is, rest, (r, rw has reads.1, first)) (λ other step.
          let on = step.2.2 in
          same_next r step.2.0 next other
          (reads.2 step.2.0 (all.only step.2.0 on.0 on.1 on.2) (rw has at step.2.1)) leads first on)

    pub any_one : call.words ≡ None → (one : LineReply) (next : Service)
        → ArePossible s (ServesCall call s) (possible.One one)
        → LeadsTo (ServesCall call s) (reply_in one) next → AreAll (CallStep call s) (next ∷ [])
    any_one none one next all leads =
        let r = reply_in one in
        let first = leads_on r next (all.can r (same_reply r)) leads in
        all_of_one (CallStep call s) next (is, rest, (r, rw none tt, first)) (λ other step.
        let on = step.2.2 in
        same_next r step.2.0 next other (all.only step.2.0 on.0 on.1 on.2) leads first on)

  module _ (p : Part) where
    pub slot_taken : (slot : ℕ) (xs : List Service)
        → ((h : Handle) → h.slot ≡ slot → ¬ (MayGiveIn s p h))
        → AreGivenBelow call s p slot xs → AreGivenBelow call s p (slot + 1) xs
    slot_taken slot xs never given = (
      all_as (GivesBelow call s p slot) (GivesBelow call s p (slot + 1)) xs
          (λ x g. (g.0, g.1, omega (arith, g.2), g.3))
          (λ x g. (
            g.0,
            g.1,
            (elim (cases_lt g.0.slot slot) [
              | inl l ↦ l
              | inr m ↦ absurd (never g.0 (omega (arith, g.2)) g.1)
            ]),
            g.3,
          )) given.0,
      given.1,
    )

    -- a state that was found before is another one
    given_differs : (slot : ℕ) (xs : List Service) (h : Handle) (next : Service)
        → h.slot ≡ slot → LeadsOn call s (reply.Handle h) next
        → All (GivesBelow call s p slot) xs → (k : ℕ) (d : Service) → k < length xs
        → get_or xs k d ≢ next
    given_differs slot xs h next at on all k d within same =
        let g = all k d within in
        absurd (omega (
          arith,
          at,
          g.2,
          one_slot s next (call.handle ∷ []) call.command g.0 h
              (subst (LeadsOn call s (reply.Handle g.0)) same g.3) on,
        ))

    pub slot_given : (slot : ℕ) (xs : List Service) (h : Handle) (next : Service)
        → h.slot ≡ slot → MayGiveIn s p h
        → CanServe (ServesCall call s) (reply.Handle h)
        → LeadsTo (ServesCall call s) (reply.Handle h) next
        → AreGivenBelow call s p slot xs
        → AreGivenBelow call s p (slot + 1) (xs ++ next ∷ [])
    slot_given slot xs h next at may can leads given =
        let on = leads_on (reply.Handle h) next can leads in (
          all_and_one (GivesBelow call s p slot) (GivesBelow call s p (slot + 1)) xs next
              (λ x g. (g.0, g.1, omega (arith, g.2), g.3))
              (h, may, omega (arith, at), on)
              (λ x g. (elim (cases_lt g.0.slot slot) [
                | inl l ↦ inl (g.0, g.1, l, g.3)
                | inr m ↦ grind (arith, one_next, same_given)
              ])) given.0,
          all_pairs_push (λ a b. a ≢ b) xs next given.1
              (given_differs slot xs h next at on given.0.0),
        )

    pub none_given : (xs : List Service) → xs ≡ [] → AreGivenBelow call s p 0 xs
    none_given xs none = grind (arith, all_of_none)

    module _ (is : IsService s) (rest : quiet s ≡ s) (none : call.words ≡ None) where
      given_step : (limit : ℕ) (x : Service) → GivesBelow call s p limit x → CallStep call s x
      given_step limit x g = (is, rest, (reply.Handle g.0, rw none tt, g.3))

      pub all_given : ArePossible s (ServesCall call s) (possible.Given p)
          → (limit : ℕ) → ((h : Handle) → MayGiveIn s p h → h.slot < limit) → (xs : List Service)
          → AreGivenBelow call s p limit xs → AreEnough (CallStep call s) xs
      all_given all limit below xs given =
          let are =
          all_as (GivesBelow call s p limit) (CallStep call s) xs (given_step limit)
          (λ x step.
          let on = step.2.2 in
          let a = all.only step.2.0 on.0 on.1 on.2 in
          (a.0, a.2, below a.0 a.2, subst (λ q. LeadsOn call s q x) a.1 on)) given.0 in
          (are.0, given.1, inl are.1)

      pub many_given : (limit : ℕ) (xs : List Service) → AreGivenBelow call s p limit xs
          → 4096 < length xs → AreEnough (CallStep call s) xs
      many_given limit xs given many = (
        All-weaker (GivesBelow call s p limit) (CallStep call s) (given_step limit) xs given.0.0,
        given.1,
        inr many,
      )

module _ (call : Call) (seen : SeenReply) (has : call.words ≡ Some (seen_text seen))
    (nothing : changes_nothing seen ≡ true) where
  same_state : (old mid : Service) (r : Reply) → quiet old ≡ old → text_of r ≡ seen_text seen
      → ServesCall call old r mid → quiet mid ≡ old
  same_state old mid r rest text served = grind (arith, reported_nothing, nothing, stays)

  pub changes_none : ChangesNothing call
  changes_none old new step = grind (arith, same_state)

  pub idle : (s : Service) (p : Possible) (r : Reply) → IsService s → quiet s ≡ s
      → ArePossible s (ServesCall call s) p → ReadsReply s p (seen_text seen) (Some r)
      → IsIdleCall call s
  idle s p r is rest all reads =
      let can = all.can r reads.0 in (
        (
          is,
          rest,
          (
            r,
            rw has reads.1,
            (can.0, can.1, can.2, same_state s can.0 r rest reads.1 can.1),
          ),
        ),
        changes_none,
      )

-- what lists and counts of the ports of a role reply
module _ (s : Service) (role : Role) where
  abbrev Known : Type 0
  Known =
      IsEither (first_role s.pattern) (second_role s.pattern) role
      ⊎ IsNeither (first_role s.pattern) (second_role s.pattern) role

  list_of : CanList s.ports.first.registry → CanList s.ports.second.registry → Known
      → (r : Reply) × ServesList s role r
  list_of one two (inl (inl e)) = (reply.Ports one.0, inl (e, one.1))
  list_of one two (inl (inr e)) = (reply.Ports two.0, inr (e, two.1))
  list_of one two (inr none) = (reply.WrongPattern, none)

  count_of : Known → (r : Reply) × ServesCount s role r
  count_of (inl (inl e)) = (reply.Count (length s.ports.first.registry.entries), inl (e, refl))
  count_of (inl (inr e)) = (reply.Count (length s.ports.second.registry.entries), inr (e, refl))
  count_of (inr none) = (reply.WrongPattern, none)

pub can_ask : (s : Service) (handles : List (Option Handle)) (c : Command)
    → CanList s.nodes.registry → CanList s.ports.first.registry → CanList s.ports.second.registry
    → is_query c ≡ true → CanAsk s handles c
can_ask s handles command.Nodes nodes one two q = (reply.Nodes nodes.0, (nodes.1, refl))
can_ask s handles (command.List role) nodes one two q =
    let list = list_of s role one two (known_role s.pattern role) in
    (list.0, (list.1, refl))
can_ask s handles (command.Count role) nodes one two q =
    let count = count_of s role (known_role s.pattern role) in
    (count.0, (count.1, refl))
can_ask s handles _ nodes one two q = grind arith

-- a query leaves the service as it is
query_stays : (s mid : Service) (handles : List (Option Handle)) (c : Command) (r : Reply)
    → is_query c ≡ true → Serves s None handles c r mid → mid ≡ s
query_stays s mid handles command.Nodes r q so = so.1
query_stays s mid handles (command.List role) r q so = so.1
query_stays s mid handles (command.Count role) r q so = so.1
query_stays s mid handles _ r q so = grind arith

module _ (call : Call) (q : is_query call.command ≡ true) where
  pub query_changes_none : ChangesNothing call
  query_changes_none old new step =
      let on = step.2.2 in
      sym on.3
      ∙ (ap quiet (query_stays old on.0 (call.handle ∷ []) call.command step.2.0 q on.1) ∙ step.1)

  -- a query whose reply was not seen
  pub open_query : (s : Service) → IsService s → quiet s ≡ s
      → CanAsk s (call.handle ∷ []) call.command → call.words ≡ None → IsIdleCall call s
  open_query s is rest asked none = (
    (is, rest, (asked.0, rw none tt, (s, asked.1, is, rest))),
    query_changes_none,
  )

replies_by_words : (call : Call) (s : Service) (p : PossibleReplies) → IsService s → quiet s ≡ s
    → ArePossibleWords (ServesCall call s) p → AreRepliesOf s call p
replies_by_words call s p is rest all = record {
  by_words = λ words. (
    λ a.
        let r = (all.by_words words).0 a in
        (quiet r.2.0, (is, rest, (r.0, r.1, (r.2.0, r.2.1, r.2.2, refl)))),
    λ j.
        let on = j.1.2.2 in
        (all.by_words words).1 (j.1.2.0, j.1.2.1, (on.0, on.1, on.2)),
  );
  itself = λ r e.
      let can = all.itself r e in
      (quiet can.0, (can.0, can.1, can.2, refl));
  rising = all.rising;
}

pub replies_found : (call : Call) (s : Service) (found : Result PossibleReplies AllocError)
    → IsService s → quiet s ≡ s → IfOk found (ArePossibleWords (ServesCall call s))
    → IfOk found (AreRepliesOf s call)
replies_found call s found is rest =
    IfOk-weaker found _ _ (λ p. replies_by_words call s p is rest)
