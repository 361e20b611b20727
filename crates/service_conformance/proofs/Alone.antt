-- Calls that overlap nothing are runs.
use Rattle.service_conformance.proofs.Names.{AllByRecursion, List, None, Option, Some, [], ap, arith, length, map, range_with_len, refl, slice_get, subst, suc, sym, zero, ℕ, ◌++◌, ◌+◌, ◌<◌, ◌^◌, ◌↔◌, ◌∙◌, ◌∷◌, ◌≡◌, same_Some, Answered, Call, CallStep, Command, First, Gives, Handle, IsBare, IsBounded, IsBoundedRegistry, IsExplained, IsRegistry, IsService, Judged, JudgedStep, KeepsHandles, Leads, MayGive, PortDetails, RegistryState, Reply, Run, Second, Serves, Service, ServiceStep, Side, State, Watched, WindowStep, added_role, answered, at_first, call, call_of, calls_alone, cons_same, handle_for, handle_in, handle_named, judged_of, ports_at, quiet, quiet_state, role_at, role_of, text_of, unwatched}
use Rattle.histories.specs.Histories.{in_order}
use Rattle.histories.proofs.Alone.{calls_alone_are_runs}
use Rattle.histories.proofs.Lists.{only}
use Rattle.iox2_container.proofs.Histories.{Grows}
use Rattle.service_descriptions.specs.declared.replay.machine.command.Command.TheVariants as command
use Rattle.service_descriptions.specs.declared.replay.machine.reply.Reply.TheVariants as reply
use Rattle.service_descriptions.proofs.Serving.{moves, keeps}
use Rattle.service_conformance.proofs.Following.{attach_may, register_may}
use Rattle.service_conformance.proofs.Quiet.{run_quiet, serves_quiet, service_quiet}
use Rattle.service_conformance.proofs.Seen.{is_handle, no_handle_text}
use Rattle.service_conformance.proofs.Taking.{ports_are}
use Rattle.service_conformance.proofs.Words.{neither, one_handle, parts_same}

-- a handle that the service may give to a command
record IsOwn (s : Service) (c : Command) (h : Handle) : Type 0 where
  pub slot : h.slot < 2 ^ 64
  pub ticket : h.ticket < 2 ^ 64
  pub service : h.service ≡ s.nodes.registry.service
  pub role : h.role ≡ added_role c

own_of : {T : Type 0} (s : Service) (c : Command) (r : RegistryState T) (h : Handle)
    → IsRegistry r → IsBoundedRegistry r → r.service ≡ s.nodes.registry.service
    → r.role ≡ added_role c → MayGive r h → IsOwn s c h
own_of s c r h i b number role may = grind arith

module _ (s mid : Service) (i : IsService s) (kept : IsService mid) (b : IsBounded s) where
  bounded : (side : Side) → IsBoundedRegistry (ports_at s side).registry
  bounded First = b.first
  bounded Second = b.second

  own_port : (d : PortDetails) (h : Handle) (side : Side) → role_of d ≡ role_at s.pattern side
      → MayGive (ports_at s side).registry h → IsOwn s (command.Add d) h
  own_port d h side role may = grind (arith, ports_are, own_of, bounded)

  own_given : (handles : List (Option Handle)) (c : Command) (h : Handle)
      → Serves s None handles c (reply.Handle h) mid → IsOwn s c h
  own_given handles (command.Register id) h so =
      own_of s (command.Register id) s.nodes.registry h i.nodes_are b.nodes refl i.role_is
      (register_may s id h (mid, so, kept)).1
  own_given handles (command.Add d) h so =
      let a = so.1.1.0 in
      own_port d h a.side a.role_is
      (attach_may s d a.side h a.role_is (mid, so, kept)).1
  own_given handles (command.Deregister k) h so = grind (arith, neither)
  own_given handles (command.Release k) h so = grind (arith, neither)
  own_given handles command.Nodes h so = absurd so.0
  own_given handles (command.List role) h so = absurd so.0
  own_given handles (command.Count role) h so = absurd so.0
  own_given handles (command.Dead dead cleanup) h so = absurd so
  own_given handles _ h so = absurd (let z = so.0 in cc)

-- the handle that a reply gives is that which its words give
module _ (s mid : Service) (i : IsService s) (kept : IsService mid) (b : IsBounded s)
    (handles : List (Option Handle)) (c : Command) (r : Reply)
    (so : Serves s None handles c r mid) where
  own_is : (h : Handle) → r ≡ reply.Handle h → IsOwn s c h
  own_is h is =
      own_given s mid i kept b handles c h (subst (λ q. Serves s None handles c q mid) is so)

  given_is : (found : Option Handle) → handle_in r ≡ found → (g : Option Handle)
      → Gives s.nodes.registry.service c (text_of r) g → found ≡ g
  given_is None e None gives = refl
  given_is None e (Some k) gives = absurd (no_handle_text r e k.slot k.ticket gives.0)
  given_is (Some h) e None gives =
      let is = is_handle r h e in
      let own = own_is h is in
      absurd (gives h.slot h.ticket own.slot own.ticket (sym (ap text_of is)))
  given_is (Some h) e (Some k) gives = grind (arith, is_handle, own_is, parts_same, one_handle)

  pub given_same : (words : List ℕ) (g : Option Handle) → text_of r ≡ words
      → Gives s.nodes.registry.service c words g → handle_in r ≡ g
  given_same words g text gives = grind (arith, given_is)

-- a command that names a number is one that names command 0, where that gave its handle
first_serves : (s mid : Service) (handles : List (Option Handle)) (c : Command) (r : Reply)
    → Serves s None (handle_for c (handle_named handles c) ∷ []) (at_first c) r mid
    ≡ Serves s None handles c r mid
first_serves s mid handles (command.Deregister k) r = refl
first_serves s mid handles (command.Release k) r = refl
first_serves s mid handles _ r = refl

abbrev call_for : List (Option Handle) → Answered → Call
call_for handles a = answered (call_of a.command (handle_named handles a.command)) a.words

abbrev next : State → Service → Option Handle → State
next old mid g = record old { service = mid; handles = old.handles ++ g ∷ [] }

-- a step of a call is one of its command
record IsNextStep (old : State) (a : Answered) (mid : Service) (r : Reply) : Type 0 where
  pub text : text_of r ≡ a.words
  pub step : ServiceStep old a.command r (next old mid a.given)
  pub bare : IsBare (next old mid a.given)
  pub number : mid.nodes.registry.service ≡ old.service.nodes.registry.service

-- slots and tickets stay numbers of 64 bits
stays_bounded : {T : Type 0} (old new : RegistryState T) → Grows old new → IsBoundedRegistry old
    → IsBoundedRegistry new
stays_bounded old new g b = record {
  slots = subst (λ n. n < 2 ^ 64) (sym g.slots) b.slots;
  tickets = subst (λ n. n < 2 ^ 64) (sym g.tickets) b.tickets;
}

module _ (old : State) (a : Answered) (bare : IsBare old)
    (gives : Gives old.service.nodes.registry.service a.command a.words a.given) where
  next_step : (mid : Service) (r : Reply) → text_of r ≡ a.words → IsService mid
      → quiet mid ≡ mid → Serves old.service None old.handles a.command r mid
      → IsNextStep old a mid r
  next_step mid r text is rest so =
      let same =
      given_same old.service mid bare.is_service is bare.bounded old.handles a.command r so a.words
      a.given text gives in
      let move = moves old.service None old.handles a.command r mid bare.is_service so in
      let kept = subst (λ g. KeepsHandles mid (old.handles ++ g ∷ [])) same
      (keeps old.service mid old.handles (handle_in r) move bare.keeps) in
      record {
        text = text;
        step = grind arith;
        bare = grind (arith, stays_bounded);
        number = move.nodes.service;
      }

  there_step : (mid : Service) → CallStep (call_for old.handles a) old.service mid
      → (r : Reply) × IsNextStep old a mid r
  there_step mid step =
      let r = step.2.0 in
      let on = step.2.2 in
      let served = subst (λ (T : Type 0). T)
      (first_serves old.service on.0 old.handles a.command r) on.1 in
      let seen =
      subst (λ s. Serves s None old.handles a.command r mid) bare.rest
      (subst (Serves (quiet old.service) None old.handles a.command r) on.3
      (serves_quiet old.service None old.handles a.command r on.0 served)) in (
        r,
        next_step mid r step.2.1 (subst IsService on.3 (service_quiet on.0 on.2))
            (ap quiet (sym on.3) ∙ on.3) seen,
      )

  module _ (r : Reply) (new : State) (text : text_of r ≡ a.words)
      (step : ServiceStep old a.command r new) where
    served_bare : Serves old.service None old.handles a.command r new.service
    served_bare =
        subst (λ d. Serves old.service d old.handles a.command r new.service) bare.bare step.0

    back_step : CallStep (call_for old.handles a) old.service (quiet new.service)
    back_step = (
      bare.is_service,
      bare.rest,
      (
        r,
        text,
        (
          new.service,
          subst (λ (T : Type 0). T)
              (sym (first_serves old.service new.service old.handles a.command r)) served_bare,
          step.2.is_service,
          refl,
        ),
      ),
    )

    back_next : IsNextStep old a (quiet new.service) r
    back_next =
        next_step (quiet new.service) r text (service_quiet new.service step.2.is_service) refl
        (subst (λ s. Serves s None old.handles a.command r (quiet new.service)) bare.rest
        (serves_quiet old.service None old.handles a.command r new.service served_bare))

    back_state : quiet_state new ≡ next old (quiet new.service) a.given
    back_state = grind (arith, given_same, served_bare)

abbrev AllGive : ℕ → List Answered → Type 0
AllGive number reported = AllByRecursion (λ a. Gives number a.command a.words a.given) reported

abbrev words_in : List Answered → List (List ℕ)
words_in reported = map (λ (a : Answered). a.words) reported

abbrev commands_in : List Answered → List Command
commands_in reported = map (λ (a : Answered). a.command) reported

-- the calls from a number on are those that were reported, and lead from state to state as runs do,
-- where no weak listing looks
module _ (all : List Judged) where
  abbrev AreFrom : ℕ → List (Option Handle) → List Answered → Type 0
  AreFrom k handles reported =
      (at : ℕ) → slice_get (judged_of handles reported) at ≡ slice_get all (k + at)

  others_from : (k : ℕ) (handles : List (Option Handle)) (a : Answered) (reported : List Answered)
      → AreFrom k handles (a ∷ reported) → AreFrom (k + 1) (handles ++ a.given ∷ []) reported
  others_from k handles a reported same n = same (suc n) ∙ ap (slice_get all) (omega arith)

  there : (reported : List Answered) (k : ℕ) (old : State) → IsBare old
      → AllGive old.service.nodes.registry.service reported → AreFrom k old.handles reported
      → (new : Watched)
      → Leads (WindowStep 0 all) (unwatched old.service) (range_with_len k (length reported)) new
      → (replies : List Reply) × (map text_of replies ≡ words_in reported)
      × ((last : State) × Run old (commands_in reported) replies last)
  there [] k old bare gives same new leads = ([], refl, (old, refl))
  there (a ∷ reported) k old bare gives same new leads =
      let step = leads.1 in
      let has = step.1 in
      let c = call_for old.handles a in
      let at : has.0 ≡ k + 0 = omega (arith, has.1) in
      let is : step.0 ≡ call c =
      same_Some step.0 (call c) (sym has.2 ∙ (ap (slice_get all) at ∙ sym (same 0))) in
      let made : JudgedStep k (call c) (unwatched old.service) leads.0 =
      subst (λ x. JudgedStep k x (unwatched old.service) leads.0) is step.2 in
      let found = there_step old a bare gives.0 leads.0.service made.1 in
      let after = next old leads.0.service a.given in
      let rest =
      there reported (k + 1) after found.1.bare
      (subst (λ n. AllGive n reported) (sym found.1.number) gives.1)
      (others_from k old.handles a reported same) new
      (subst (λ (w : Watched).
      Leads (WindowStep 0 all) w (range_with_len (k + 1) (length reported)) new) made.2 leads.2)
      in (
        found.0 ∷ rest.0,
        ap (λ (w : List ℕ). w ∷ map text_of rest.0) found.1.text
            ∙ ap (λ (l : List (List ℕ)). a.words ∷ l) rest.1,
        (rest.2.0, (after, found.1.step, rest.2.1)),
      )

  back : (reported : List Answered) (k : ℕ) (old : State) → IsBare old
      → AllGive old.service.nodes.registry.service reported → AreFrom k old.handles reported
      → (replies : List Reply) → map text_of replies ≡ words_in reported → (last : State)
      → Run old (commands_in reported) replies last
      → (new : Service) × Leads (WindowStep 0 all) (unwatched old.service)
      (range_with_len k (length reported)) (unwatched new)
  back [] k old bare gives same replies e last run = (old.service, refl)
  back (a ∷ reported) k old bare gives same [] e last run = absurd run
  back (a ∷ reported) k old bare gives same (r ∷ rs) e last run =
      let both = cons_same e in
      let mid = run.0 in
      let next_is = back_next old a bare gives.0 r mid both.0 run.1 in
      let after = next old (quiet mid.service) a.given in
      let rest =
      back reported (k + 1) after next_is.bare
      (subst (λ n. AllGive n reported) (sym next_is.number) gives.1)
      (others_from k old.handles a reported same) rs both.1 (quiet_state last)
      (subst (λ s. Run s (commands_in reported) rs (quiet_state last))
      (back_state old a bare gives.0 r mid both.0 run.1)
      (run_quiet mid last (commands_in reported) rs run.2)) in (
        rest.0,
        (
          unwatched (quiet mid.service),
          (
            call (call_for old.handles a),
            (k, omega arith, ap (slice_get all) (omega arith) ∙ sym (same 0)),
            (refl, back_step old a bare gives.0 r mid both.0 run.1, refl),
          ),
          rest.1,
        ),
      )

range_more : (a n b : ℕ) → a + n ≡ b
    → range_with_len a (suc n) ≡ range_with_len a n ++ b ∷ []
range_more a zero b e = (let same : a ≡ b = omega arith in ap (λ (k : ℕ). k ∷ []) same)
range_more a (suc n) b e = ap (λ (l : List ℕ). a ∷ l) (range_more (a + 1) n b (omega arith))

rising : (n : ℕ) → in_order n ≡ range_with_len 0 n
unfolding in_order
rising zero = refl
rising (suc n) =
    ap (λ (l : List ℕ). l ++ n ∷ []) (rising n) ∙ sym (range_more 0 n n (omega arith))

same_indices : (calls : List Judged) (n : ℕ) → slice_get calls n ≡ slice_get calls (0 + n)
same_indices calls n = (let e : n ≡ 0 + n = omega arith in ap (slice_get calls) e)

pub alone : (old : State) (reported : List Answered) → IsBare old
    → AllByRecursion (λ a. Gives old.service.nodes.registry.service a.command a.words a.given)
    reported
    → IsExplained (WindowStep 0 (judged_of old.handles reported)) (calls_alone (length reported))
    (unwatched old.service ∷ [])
    ↔ ((replies : List Reply) × (map text_of replies ≡ words_in reported)
    × ((new : State) × Run old (commands_in reported) replies new))
alone old reported bare gives =
    let all = judged_of old.handles reported in
    let start = unwatched old.service in
    let Step = WindowStep 0 all in
    let order = rising (length reported) in (
      λ explained.
          let from = explained.0 in
          let new = explained.2 in
          let is = only start from explained.3 in
          let leads = ((calls_alone_are_runs Step (length reported) from new explained.1).0
          explained.4).1 in
          there all reported 0 old bare gives (same_indices all) new
          (subst (λ l. Leads Step start l new) order
          (subst (λ s. Leads Step s (in_order (length reported)) new) is leads)),
      λ run.
          let found =
          back all reported 0 old bare gives (same_indices all) run.0 run.1 run.2.0 run.2.1 in
          let leads =
          subst (λ l. Leads Step start l (unwatched found.0)) (sym order) found.1 in (
            start,
            in_order (length reported),
            unwatched found.0,
            (0, omega arith, refl),
            (calls_alone_are_runs Step (length reported) start (unwatched found.0)
                (in_order (length reported))).1 (refl, leads),
          ),
    )
