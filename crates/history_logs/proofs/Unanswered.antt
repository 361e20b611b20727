-- What is explained of a service after one line more was explained before it.
use Rattle.history_logs.proofs.Words.{All, All-push, All-set, Begin, Begins, Begun, Crash, End, Event, GoesOn, HasEnded, IsExplained, IsKept, IsOpen, IsOrderly, IsSeenRightly, Judged, Line, List, Log, NamedCommand, None, Option, Part, SeenReply, Service, Some, StepOf, Watched, [], ap, arith, begins, called, calls_answered, calls_shown, cases_eq, command, get_set_other, inl, inr, judged_answered, length, length-append, length_push, news, numbered, option_and_then, option_map, refl, same_Some, shown, slice_get, slice_get_within, slice_set, start_of, started, starting, starts, stopped, stopping, stops, subst, sym, take, take-append_seam, take_all, unseen, weak, with_alone, with_begin, with_end, with_look, with_over, with_part, ℕ, ◌++◌, ◌+◌, ◌<◌, ◌∙◌, ◌∷◌, ◌≡◌}
use Rattle.std.specs.Prelude.{Bool, true}
use Rattle.histories.proofs.Events.{ended_now, ended_still}
use Rattle.histories.proofs.Explaining.{explained_seen}
use Rattle.histories.proofs.Verdicts.{explained_take}
use Rattle.iox2_dynamic.specs.Service as dynamic
use Rattle.service_conformance.proofs.Fewer.{IsFewer, fewer_step, hiding, is_shown}
use Rattle.service_conformance.proofs.Fewer.IsFewer.{no_ids, no_reply, no_words, own}
use Rattle.service_conformance.specs.Judged.{JudgedStep, ids_seen}
use Rattle.service_conformance.specs.Judged.Judged.{call as judged_call}
use Rattle.service_conformance.specs.Looks.{unwatched}
use Rattle.service_conformance.specs.Seen.{seen_text}
use Rattle.service_descriptions.specs.declared.replay.machine.command.Command.TheVariants as machine
use Rattle.history_logs.proofs.AtIndex.{all_get, all_of, get_left, get_push, get_push_at, get_same, get_within}
use Rattle.history_logs.proofs.Kept.{Changes, Moves, moves_step}
use Rattle.history_logs.proofs.Kept.Changes.{call_alone, call_begins, call_ends, caller_dies, is_given}
use Rattle.history_logs.proofs.Kept.Moves.{none_changes, one_added, one_changes}
use Rattle.history_logs.proofs.Orderly.{length_answered, open_new, orderly_begin, orderly_crash, orderly_end, orderly_over, orderly_part}
use Rattle.history_logs.proofs.Shortened.{get_changed, get_unchanged}

-- Where the call of this number is open in the events, no reply to it was seen. A weak listing that
-- starts is open until the next call ends, which stops it.
abbrev pub AwaitsReply : List Event → ℕ → Judged → Type 0
AwaitsReply es number (judged_call c) = ¬ (HasEnded es number) → c.words ≡ None
AwaitsReply es number (starts p ids) = ¬ (HasEnded es (number + 1)) → ids ≡ None
AwaitsReply es number (stops start r) =
    (start + 1 ≡ number) × (¬ (HasEnded es number) → r ≡ None)

-- so it is with each call of the service
abbrev pub Awaits : Service → Type 0
Awaits s =
    (number : ℕ) (c : Judged) → slice_get s.calls number ≡ Some c → AwaitsReply s.events number c

awaits_more : (es : List Event) (e : Event) (number : ℕ) (c : Judged) → AwaitsReply es number c
    → AwaitsReply (es ++ e ∷ []) number c
awaits_more es e number (judged_call c) awaits =
    λ live. awaits (λ ended. live (ended_still es e number ended))
awaits_more es e number (starts p ids) awaits =
    λ live. awaits (λ ended. live (ended_still es e (number + 1) ended))
awaits_more es e number (stops start r) awaits =
    (awaits.0, λ live. awaits.1 (λ ended. live (ended_still es e number ended)))

awaits_called : (s : Service) (c : NamedCommand) (es : List Event) (number : ℕ)
    → AwaitsReply es number (called s c)
awaits_called s (numbered c) es number = λ live. refl
awaits_called s _ es number = λ live. refl

-- the other one is the service after more was seen of it
pub record IsNext (s t : Service) : Type 0 where
  pub back : IsSeenRightly t → IsSeenRightly s
  pub awaits : Awaits t

next_then : (s t u : Service) → IsNext s t → IsNext t u → IsNext s u
next_then s t u one other =
    record { back = λ right. one.back (other.back right); awaits = other.awaits }

-- what explains the events and one more explains the events
right_before : (s t : Service) (e : Event) → IsOrderly t → t.events ≡ s.events ++ e ∷ []
    → IsSeenRightly t → IsExplained (StepOf t) s.events (news t)
right_before s t e o is right =
    let n = length s.events in
    let long : length t.events ≡ n + 1 = ap length is ∙ length_push s.events e in
    let whole : take (n + 1) t.events ≡ t.events =
    take_all (n + 1) t.events (omega (arith, long)) in
    let front : take n t.events ≡ s.events =
    ap (take n) is ∙ take-append_seam s.events (e ∷ []) in
    subst (λ es. IsExplained (StepOf t) es (news t)) front
    (explained_take (StepOf t) t.events (news t) n 1 o.history (omega (arith, long))
    (subst (λ es. IsExplained (StepOf t) es (news t)) (sym whole) right))

-- what begins in the events is one of the calls
call_within : (s : Service) → IsOrderly s → (number : ℕ) → 0 < begins number s.events
    → number < length s.calls
call_within s o number some = omega (arith, o.numbered number some, o.counts)

-- a call that has begun is over
next_event : (s : Service) (e : Event) (k : ℕ) → Awaits s
    → IsOrderly (record s { events = s.events ++ e ∷ []; event_lines = s.event_lines ++ k ∷ [] })
    → IsNext s (record s { events = s.events ++ e ∷ []; event_lines = s.event_lines ++ k ∷ [] })
next_event s e k awaits o = record {
  back = λ right. right_before s _ e o refl right;
  awaits = λ number c there. awaits_more s.events e number c (awaits number c there);
}

-- a call begins
next_call : (s : Service) (c : Judged) (k : ℕ) (commands : List ℕ) → IsOrderly s
    → IsOrderly (record (with_part s c k) { commands = commands }) → Awaits s
    → AwaitsReply (s.events ++ Begin (length s.calls) ∷ []) (length s.calls) c
    → IsNext s (record (with_part s c k) { commands = commands })
next_call s c k commands o orderly awaits last =
    let t : Service = record (with_part s c k) { commands = commands } in
    let e = Begin (length s.calls) in
    record {
      back = λ right.
          explained_seen (StepOf t) (StepOf s) (λ (w : Watched). w) s.events
          (λ old number new some step.
          let within : step.1.0 < length s.calls =
          omega (arith, call_within s o number some, step.1.1) in (
            step.0,
            (step.1.0, step.1.1, sym (get_left s.calls (c ∷ []) step.1.0 within) ∙ step.1.2),
            step.2,
          )) (news t) (right_before s t e orderly refl right);
      awaits = λ number d there. elim (get_push_at s.calls c number d there) [
        | inl before ↦ awaits_more s.events e number d (awaits number d before)
        | inr here ↦ rw (here.0, ← here.1) last
      ];
    }

next_look : (s : Service) (p : Part) (k : ℕ) → IsOrderly s → Awaits s
    → IsNext s (with_look s p k)
next_look s p k o awaits =
    let n = length s.calls in
    let one = with_begin s (starting p) k in
    let two = with_over one n k in
    let first = orderly_begin s (starting p) k o in
    let second : IsOrderly two = orderly_over one n k first (open_new s (starting p) k o) in
    let long : n + 1 ≡ length two.calls = sym (length-append s.calls ((starting p) ∷ [])) in
    let begun : IsNext s one =
    next_call s (starting p) k one.commands o first awaits (λ live. refl) in
    let over : IsNext one two = next_event one (End n) k begun.awaits second in
    next_then s one (with_look s p k) begun
    (next_then one two (with_look s p k) over
    (next_call two (stopping n) k two.commands second (orderly_part two (stopping n) k second)
    over.awaits (long, λ live. refl)))

-- a call of the service that is open is answered
module _ (s : Service) (number : ℕ) (r : SeenReply) (awaits : Awaits s)
    (live : ¬ (HasEnded s.events number)) (c : Judged)
    (own_call : slice_get s.calls number ≡ Some c)
  where
    abbrev ended_events : List Event
    ended_events = s.events ++ End number ∷ []

    ended : HasEnded ended_events number
    ended = ended_now s.events (End number) number (inl refl)

    stays : (m : ℕ) (d : Judged) → slice_get s.calls m ≡ Some d → AwaitsReply ended_events m d
    stays m d there = awaits_more s.events (End number) m d (awaits m d there)

    starts_before : (start : ℕ) → start_of s.calls number ≡ Some start → start + 1 ≡ number
    starts_before start is = one c own_call (sym (ap (option_and_then stopped) own_call) ∙ is)
      where
        one : (d : Judged) → slice_get s.calls number ≡ Some d → stopped d ≡ Some start
            → start + 1 ≡ number
        one (stops from x) there same =
            ap (λ n. n + 1) (sym (same_Some from start same))
            ∙ (awaits number (stops from x) there).0
        one (judged_call a) there same = absurd (cc)
        one (starts p ids) there same = absurd (cc)

    -- what the call of a number is then
    abbrev IsThen : List Judged → ℕ → Judged → Type 0
    IsThen calls m d =
        (new : Judged) × (slice_get calls m ≡ Some new) × IsFewer d new
        × AwaitsReply ended_events m new

    then_own : (d : Judged) → slice_get s.calls number ≡ Some d
        → IsFewer d (judged_answered d r) × AwaitsReply ended_events number (judged_answered d r)
    then_own (judged_call a) there = (
      no_words a (seen_text r) (awaits number (judged_call a) there live),
      λ still. absurd (still ended),
    )
    then_own (starts p ids) there = (own (starts p ids), stays number (starts p ids) there)
    then_own (stops start None) there = (
      no_reply start r,
      ((awaits number (stops start None) there).0, λ still. absurd (still ended)),
    )
    then_own (stops start (Some x)) there =
        let none = (awaits number (stops start (Some x)) there).1 live in absurd (cc)

    then_shown : (m : ℕ) → m + 1 ≡ number → (d : Judged) → slice_get s.calls m ≡ Some d
        → IsFewer d (shown d r) × AwaitsReply ended_events m (shown d r)
    then_shown m next (starts p None) there = (
      no_ids p (ids_seen r),
      λ still. absurd (still (subst (HasEnded ended_events) (sym next) ended)),
    )
    then_shown m next (starts p (Some ids)) there =
        let none =
        awaits m (starts p (Some ids)) there (λ e. live (subst (HasEnded s.events) next e)) in
        absurd (cc)
    then_shown m next (judged_call a) there = (own (judged_call a), stays m (judged_call a) there)
    then_shown m next (stops start x) there = (own (stops start x), stays m (stops start x) there)

    then_other : (start : Option ℕ) → start_of s.calls number ≡ start → (m : ℕ) (d : Judged)
        → slice_get s.calls m ≡ Some d → IsThen (calls_shown s.calls start r) m d
    then_other None is m d there = (d, there, own d, stays m d there)
    then_other (Some start) is m d there =
        elim (cases_eq m start) [
          | inl same ↦
              let next : m + 1 ≡ number = omega (arith, starts_before start is) in
              let now = then_shown m next d there in (
                shown d r,
                rw (← same) (get_changed (λ x. shown x r) s.calls m
                    ∙ ap (option_map (λ x. shown x r)) there),
                now.0,
                now.1,
              )
          | inr other ↦ (
            d,
            get_unchanged (λ x. shown x r) s.calls start m other ∙ there,
            own d,
            stays m d there,
          )
        ]

    unshown : (start : Option ℕ) → start_of s.calls number ≡ start
        → slice_get (calls_shown s.calls start r) number ≡ slice_get s.calls number
    unshown None is = refl
    unshown (Some start) is =
        get_unchanged (λ x. shown x r) s.calls start number
        (λ e. absurd (omega (arith, starts_before start is, e)))

    then_at : (m : ℕ) (d : Judged) → slice_get s.calls m ≡ Some d
        → IsThen (calls_answered s.calls number r) m d
    then_at m d there =
        let f = λ (x : Judged). judged_answered x r in
        let start = start_of s.calls number in
        let shown_calls = calls_shown s.calls start r in
        elim (cases_eq m number) [
          | inl same ↦
              let here : slice_get s.calls number ≡ Some d = rw same at there in
              let now = then_own d here in
              rw same (
                f d,
                get_changed f shown_calls number ∙ ap (option_map f) (unshown start refl ∙ here),
                now.0,
                now.1,
              )
          | inr other ↦
              let now = then_other start refl m d there in
              (now.0, get_unchanged f shown_calls number m other ∙ now.1, now.2, now.3)
        ]

    -- the numbers of the weak listings that look by the replies that were seen
    abbrev keeps : Option Judged → Bool
    keeps None = true
    keeps (Some d) = is_shown d

    abbrev kept_at : ℕ → Bool
    kept_at m = keeps (slice_get s.calls m)

    next_end : (k : ℕ) → IsOrderly s → IsOrderly (with_end s number r k)
        → IsNext s (with_end s number r k)
    next_end k o orderly =
        let t = with_end s number r k in
        record {
          back = λ right.
              explained_seen (StepOf t) (StepOf s) (hiding kept_at) s.events
              (λ old m new some step.
              let was = get_within s.calls m (call_within s o m some) in
              let now = then_at m was.0 was.1 in
              let here : step.1.0 ≡ m = omega (arith, step.1.1) in
              let same : step.0 ≡ now.0 =
              same_Some step.0 now.0
              (sym (subst (λ i. slice_get t.calls i ≡ Some step.0) here step.1.2) ∙ now.1) in (
                was.0,
                (m, omega arith, was.1),
                fewer_step kept_at m was.0 now.0 now.2 (ap keeps was.1) old new
                    (subst (λ x. JudgedStep m x old new) same step.2),
              )) (news t) (right_before s t (End number) orderly refl right);
          awaits = λ m d there.
              let within : m < length s.calls =
              omega (arith, slice_get_within t.calls m d there, length_answered s.calls number r) in
              let was = get_within s.calls m within in
              let now = then_at m was.0 was.1 in
              subst (AwaitsReply ended_events m) (same_Some now.0 d (sym now.1 ∙ there)) now.3;
        }

-- the same of an orderly service
next_open : (s : Service) (number : ℕ) (r : SeenReply) (k : ℕ) → IsOrderly s → Awaits s
    → IsOpen s.events number → IsNext s (with_end s number r k)
next_open s number r k o awaits live =
    let c = get_within s.calls number (call_within s o number live.0) in
    next_end s number r awaits live.1 c.0 c.1 k o (orderly_end s number r k o live)

next_begin : (s : Service) (c : NamedCommand) (k : ℕ) → IsOrderly s → Awaits s
    → IsNext s (with_begin s (called s c) k)
next_begin s c k o awaits =
    let d = called s c in
    next_call s d k (s.commands ++ length s.calls ∷ []) o (orderly_begin s d k o) awaits
    (awaits_called s c (s.events ++ Begin (length s.calls) ∷ []) (length s.calls))

next_alone : (s : Service) (c : NamedCommand) (r : SeenReply) (k : ℕ) → IsOrderly s → Awaits s
    → IsNext s (with_alone s (called s c) r k)
next_alone s c r k o awaits =
    let d = called s c in
    let begun = next_begin s c k o awaits in
    next_then s (with_begin s d k) (with_alone s d r k) begun
    (next_open (with_begin s d k) (length s.calls) r k (orderly_begin s d k o) begun.awaits
    (open_new s d k o))

next_begun : (s t : Service) (b : Begun) (k current : ℕ) → IsOrderly s → Awaits s
    → Begins s b k t current → IsNext s t
next_begun s t (command c) k current o awaits is = rw is.0 (next_begin s c k o awaits)
next_begun s t (weak r) k current o awaits (inl looks) = rw looks.2 (next_look s looks.0 k o awaits)
next_begun s t (weak r) k current o awaits (inr lists) =
    rw lists.1 (next_begin s (numbered (machine.List r)) k o awaits)

-- where no call was seen, what it is before the first one explains no less
next_started : (s : Service) (start : dynamic.Service) → IsOrderly s → Awaits s → s.calls ≡ []
    → IsNext s (started s start)
next_started s start o awaits none = record {
  back = λ right.
      explained_seen (StepOf s) (StepOf s) (λ (w : Watched). unwatched s.start) s.events
      (λ old m new some step. absurd (omega (arith, call_within s o m some, ap length none)))
      (news (started s start)) right;
  awaits = awaits;
}

-- the same of services
pub record AreNext (ss ts : List Service) : Type 0 where
  pub back : All IsSeenRightly ts → All IsSeenRightly ss
  pub awaits : All Awaits ts

next_stays : (ss ts : List Service) → All Awaits ss → ts ≡ ss → AreNext ss ts
next_stays ss ts all is = rw is (record { back = λ right. right; awaits = all })

next_set : (ss ts : List Service) (at : ℕ) (s t : Service) → All Awaits ss
    → slice_get ss at ≡ Some s → IsNext s t → ts ≡ slice_set ss at t → AreNext ss ts
next_set ss ts at s t all there next is = rw is (record {
  back = λ right. all_of IsSeenRightly ss (λ i x here. elim (cases_eq i at) [
    | inl same ↦
        subst IsSeenRightly (same_Some s x (sym there ∙ rw same at here))
        (next.back (all_get IsSeenRightly (slice_set ss at t) at t right
        (get_same ss at t s there)))
    | inr other ↦
        all_get IsSeenRightly (slice_set ss at t) i x right (get_set_other ss at i t other ∙ here)
  ]);
  awaits = All-set Awaits ss at t next.awaits all;
})

next_push : (ss ts : List Service) (t : Service) → All Awaits ss → t.calls ≡ []
    → ts ≡ ss ++ t ∷ [] → AreNext ss ts
next_push ss ts t all none is = rw is (record {
  back = λ right. all_of IsSeenRightly ss (λ i x here.
      all_get IsSeenRightly (ss ++ t ∷ []) i x right (get_push ss t i x here));
  awaits = All-push Awaits ss t all (λ number c there.
      let no : slice_get [] number ≡ Some c =
      ap (λ (l : List Judged). slice_get l number) (sym none) ∙ there in
      absurd (cc));
})

next_change : (old : Log) (k : ℕ) (s : Service) (l : Line) (t : Service) → IsKept old
    → IsOrderly s → Awaits s → Changes old k s l t → IsNext s t
next_change old k s l t kept o awaits (call_begins number name b u current is) =
    next_begun s u b k current o awaits is
next_change old k s l t kept o awaits (call_alone c words r some says) = next_alone s c r k o awaits
next_change old k s l t kept o awaits (call_ends number name words r live says) =
    next_open s number r k o awaits (live kept)
next_change old k s l t kept o awaits (caller_dies number name live) =
    next_event s (Crash number) k awaits (orderly_crash s number k o (live kept))
next_change old k s l t kept o awaits (is_given number what start none) =
    next_started s start o awaits none

next_moves : (old : Log) (k : ℕ) (l : Line) (new : List Service) → IsKept old
    → All Awaits old.services → Moves old k l new → AreNext old.services new
next_moves old k l new kept all none_changes = next_stays old.services new all refl
next_moves old k l new kept all (one_changes at s t there changes) =
    next_set old.services new at s t all there
    (next_change old k s l t kept (all_get IsOrderly old.services at s kept.orderly there)
    (all_get Awaits old.services at s all there) changes) refl
next_moves old k l new kept all (one_added line start) =
    next_push old.services new (started (unseen line) start) all refl refl

pub next_step : (old new : Log) (k : ℕ) (l : Line) → IsKept old → All Awaits old.services
    → GoesOn old k l new → AreNext old.services new.services
next_step old new k l kept all g =
    next_moves old k l new.services kept all (moves_step old new k l g)
