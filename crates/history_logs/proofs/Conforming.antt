-- What is kept of a log while it is read, and what settles of all services.
use Rattle.history_logs.proofs.Words.{All, All-nil, AreNumbers, AreRightShort, AreSameFronts, AreShort, BTreeMap, Begin, CallerState, Contains-push, Crash, End, Event, Front, GoesOn, GoesShort, HasHandles, HasNo, HasShort, HaveShort, IsKept, IsOrderly, IsReadTo, IsSane, IsSeenRightly, IsShort, Line, List, Log, MayFollow, NamedCommand, None, Option, Service, Some, StayAll, Stays, StepOf, Takes, Watched, [], ap, arith, cases_lt, end_verdict, eqb, front_at, get_or, get_or_default, get_or_past, inl, inr, length, length-set, news, nil_from_length, numbers_in, refl, services_in, slice_get, slice_get_within, slice_set, subst, sum-map, sum_by, sym, take, take_all, true, ℕ, ◌++◌, ◌+◌, ◌<◌, ◌==◌, ◌∙◌, ◌∷◌, ◌≡◌, ◌≢◌, ◌≤◌}
use Rattle.histories.specs.Histories.{begun}
use Rattle.std.proofs.Common.{get_or-set_other, get_or-set_same, sum}
use Rattle.std.specs.Set.{distinct_count}
use Rattle.histories.proofs.Lists.{not_some}
use Rattle.histories.proofs.Events.{begins_none}
use Rattle.histories.proofs.Frontiers.{explains_none}
use Rattle.histories.proofs.Following.{goes_explained}
use Rattle.service_conformance.specs.Looks.{unwatched}
use Rattle.history_logs.specs.Logs.{Judged}
use Rattle.history_logs.specs.Settling.{IsRightShort}
use Rattle.history_logs.specs.declared.logs.callers.CallerState.TheVariants as caller
use Rattle.history_logs.proofs.Above.{IsAbove, above_more, read_whole}
use Rattle.history_logs.proofs.AtIndex.{all_get, all_of, get_within}
use Rattle.history_logs.proofs.Judgements.{judged_conforms}
use Rattle.history_logs.proofs.Named.{map_same, same_numbers, set_back}
use Rattle.history_logs.proofs.Kept.{longer_step}
use Rattle.history_logs.proofs.Shortened.{kept_call, short_alone, short_begins, short_end, short_new, short_over, short_started}
use Rattle.history_logs.proofs.Together.{AreTogether, GoTogether, Keeps, found, goes_too, put}

-- what is kept of what was read
pub record IsShortLog (log live : Log) (fronts : List (Option (Front Watched))) : Type 0 where
  pub services : AreShort log.services live.services fronts
  pub callers : live.callers ≡ log.callers
  pub waits : live.waits ≡ log.waits

-- this is kept of the lines above this one
pub record IsShortAbove (bytes : List ℕ) (live : Log) (fronts : List (Option (Front Watched)))
    (rest : List ℕ) (line : ℕ) : Type 0 where
  pub log : Log
  pub above : IsAbove bytes log rest line
  pub short : IsShortLog log live fronts

-- what is kept of a service goes together with it
abbrev IsShortAt : List (Option (Front Watched)) → ℕ → Service → Service → Type 0
IsShortAt fronts at live s = IsShort s live (front_at fronts at)

together : (services live : List Service) (fronts : List (Option (Front Watched)))
    → AreShort services live fronts → AreTogether (IsShortAt fronts) live services
together services live fronts a =
    record { long = a.0; each = λ at t s here there. a.2 at s t there here }

-- the service that is kept at an index
found_at : (services live : List Service) (fronts : List (Option (Front Watched))) (at : ℕ)
    (t : Service) → AreShort services live fronts → slice_get live at ≡ Some t
    → (s : Service) × (slice_get services at ≡ Some s) × IsShort s t (front_at fronts at)
found_at services live fronts at t a =
    found (IsShortAt fronts) live services (together services live fronts a) at t

-- the service at an index is another one, and has another front
short_put : (services live : List Service) (old new : List (Option (Front Watched))) (at : ℕ)
    (s x t y : Service) → AreShort services live old → slice_get services at ≡ Some x
    → slice_get live at ≡ Some y → length new ≡ length old
    → ((i : ℕ) → i ≢ at → front_at new i ≡ front_at old i) → IsShort s t (front_at new at)
    → AreShort (slice_set services at s) (slice_set live at t) new
short_put services live old new at s x t y a there here long others short =
    let both =
    put (IsShortAt old) live services (together services live old a) (IsShortAt new) at y x t s here
    there (λ i v w other is. rw (others i other) is) short in
    (both.long, omega (arith, a.1, length-set services at s), λ i v w ev ew. both.each i w v ew ev)

keeps_short : (fronts : List (Option (Front Watched))) → Keeps (IsShortAt fronts) (λ c d. c ≡ d)
keeps_short fronts = record {
  line = λ at live s h. sym (ap (λ (x : Service). x.line) h.is);
  none = λ at live s h none. nil_from_length live.calls (h.count ∙ ap length none);
  own = λ c. refl;
  begins = λ at live s b k u n h. short_begins s live (front_at fronts at) h b k u n;
  alone = λ at live s c d r k h orderly same.
      rw (← same) (short_alone s live (front_at fronts at) h c r k orderly);
  ends = λ at live s n r k h now. short_end s live (front_at fronts at) h n now.1 r k;
  crash = λ at live s n k h. short_over s live (front_at fronts at) h (Crash n) k;
  starts = λ at live s what start h. short_started s live (front_at fronts at) h what start;
}

one_wait : (a b : Option (ℕ × NamedCommand)) → (a ≡ None → b ≡ None)
    → ((at : ℕ) (c : NamedCommand) → a ≡ Some (at, c)
    → (d : NamedCommand) × (b ≡ Some (at, d)) × (c ≡ d)) → a ≡ b
one_wait None b none some = sym (none refl)
one_wait (Some w) b none some =
    let d = some w.0 w.1 refl in ap (λ (c : NamedCommand). Some (w.0, c)) d.2 ∙ sym d.1

-- one line more
goes_line : (log live new : Log) (fronts : List (Option (Front Watched))) (k : ℕ)
    → IsShortLog log live fronts → IsKept log → (l : Line) → GoesOn live k l new
    → (more : Log) × GoesOn log k l more × IsShortLog more new fronts
goes_line log live new fronts k h kept l g =
    let before : GoTogether (IsShortAt fronts) (λ c d. c ≡ d) live log =
    record {
      services = together log.services live.services fronts h.services;
      callers = sym h.callers;
      none = λ e. sym h.waits ∙ e;
      waits = λ at c e. (c, sym h.waits ∙ e, refl);
    } in
    let few = h.services.1 in
    let goes =
    goes_too (IsShortAt fronts) (λ c d. c ≡ d) (keeps_short fronts) live log k before kept
    (λ line start. rw (get_or_past fronts (length live.services) None (omega (arith, h.services.0)))
    (short_new line start)) new l g in
    let after = goes.2 in (
      goes.0,
      goes.1,
      record {
        services = (
          after.services.long,
          omega (arith, longer_step log goes.0 k l goes.1),
          λ at s t there here. after.services.each at t s here there,
        );
        callers = sym after.callers;
        waits = one_wait new.waits goes.0.waits after.none after.waits;
      },
    )

-- what is kept has what the parts need
short_sane : (log live : Log) (fronts : List (Option (Front Watched)))
    → IsShortLog log live fronts → IsKept log → IsSane live
short_sane log live fronts h kept = record {
  handles = all_of HasHandles live.services (λ i t here.
      let f = found_at log.services live.services fronts i t h.services here in
      let o = all_get IsOrderly log.services i f.0 kept.orderly f.1 in
      record {
        given = ap (λ (x : Service). length x.given) f.2.is ∙ (o.all.given ∙ sym f.2.count);
        first = omega (arith, f.2.first, f.2.within, f.2.count);
      });
  opened = λ name at number e.
      let does : log.callers name ≡ Some (caller.Calls at number) =
      sym (ap (λ (f : List ℕ → Option CallerState). f name) h.callers) ∙ e in
      let own = kept.opened name at number does in
      let t = get_within live.services at
      (omega (arith, h.services.0, slice_get_within log.services at own.0 own.1)) in
      let is = h.services.2 at own.0 t.0 own.1 t.1 in
      let o = all_get IsOrderly log.services at own.0 kept.orderly own.1 in (
        t.0,
        t.1,
        omega (arith, o.numbered number own.2.0, is.count),
        kept_call own.0 t.0 (front_at fronts at) is number own.2.1,
      );
  waits = λ at c e. omega (arith, h.services.0, kept.waits at c (sym h.waits ∙ e));
}

-- where no call was seen, nothing was
explained_none : (s : Service) → IsOrderly s → length s.calls ≡ 0 → IsSeenRightly s
unfolding begun
explained_none s o none = nothing s.events refl
  where
    first : (es : List Event) (e : Event) → s.events ≡ e ∷ es → MayFollow [] e
    first es e is = o.history 0 e (ap (λ (l : List Event). slice_get l 0) is)

    nothing : (es : List Event) → s.events ≡ es → IsSeenRightly s
    nothing [] is =
        let old = unwatched s.start in
        rw is (old, [], old, Contains-push [] old, explains_none (StepOf s) old)
    nothing (Begin c ∷ es) is = absurd (omega (arith, ap begun is))
    nothing (End c ∷ es) is = absurd (omega (arith, (first es (End c) is).0, begins_none c))
    nothing (Crash c ∷ es) is = absurd (omega (arith, (first es (Crash c) is).0, begins_none c))

pub right_none : (live : Service) (front : Option (Front Watched)) → (¬ (0 < length live.calls))
    → IsRightShort live front
right_none live front none s o k = explained_none s o (sym k.count ∙ not_some _ none)

-- the front has gone on with all that was seen
pub right_after : (live : Service) (old new : Front Watched) (count : ℕ)
    → length live.events ≤ count → GoesShort live old count new → IsRightShort live (Some old)
right_after live old new count all goes s o k =
    let f = goes s o k s.calls refl in
    rw (k.events, ← take_all count live.events all)
    (goes_explained (StepOf s) (news s) (k.past ++ take count live.events)
    (record { begin = f.0; front = new }) f.1)

-- a front at an index
pub front_is : (xs : List (Option (Front Watched))) (at : ℕ) (f : Option (Front Watched))
    → at < length xs → f ≡ get_or xs at f → front_at xs at ≡ f
front_is xs at f h is = get_or_default xs at None f h ∙ sym is

-- the services have the numbers that they had
short_numbers : (services live : List Service) (fronts : List (Option (Front Watched)))
    → AreShort services live fronts → numbers_in live ≡ numbers_in services
short_numbers services live fronts a =
    map_same (λ (s : Service). s.line.number) services live a.0
    (λ at s t there here. ap (λ (x : Service). x.line.number) (a.2 at s t there here).is)

pub numbers_stay : (m : BTreeMap ℕ ℕ) (live new : List Service)
    (fronts next : List (Option (Front Watched))) → HaveShort live fronts
    → StayAll live fronts new next → AreNumbers m live → AreNumbers m new
numbers_stay m live new fronts next h stay =
    same_numbers m live new (short_numbers h.0 new next (stay h.0 h.1 h.2)
    ∙ sym (short_numbers h.0 live fronts h.2))

-- one service settles
module _ (old live : List Service) (fronts mid : List (Option (Front Watched))) (at : ℕ)
    (t : Service) (front : Option (Front Watched)) (here : slice_get live at ≡ Some t)
    (own : front_at mid at ≡ front) (stay : StayAll old fronts live mid)
  where
    pub has_short : HaveShort old fronts → HasShort t front
    has_short h =
        let f = found_at h.0 live mid at t (stay h.0 h.1 h.2) here in
        (f.0, all_get IsOrderly h.0 at f.0 h.1 f.1, rw own at f.2)

    pub stay_set : (next : Service) (new : Option (Front Watched)) → at < length mid
        → Stays t front next new
        → StayAll old fronts (slice_set live at next) (slice_set mid at new)
    stay_set next new within is services o b =
        let a = stay services o b in
        let f = found_at services live mid at t a here in
        let short = is f.0 (all_get IsOrderly services at f.0 o f.1) (rw own at f.2) in
        let more = slice_set mid at new in
        subst (λ (l : List Service). AreShort l (slice_set live at next) more)
        (set_back services at f.0 f.1)
        (short_put services live mid more at f.0 f.0 next t a f.1 here (length-set mid at new)
        (λ i other. get_or-set_other mid at i new None other)
        (rw (get_or-set_same mid at new None within) short))

-- each service has the front that it had, or none
pub stay_same : (live : List Service) (old new : List (Option (Front Watched)))
    → length new ≡ length live → AreSameFronts old new → StayAll live old live new
stay_same live old new long same services o a = (
  a.0,
  omega (arith, a.0),
  λ at s t there here. rw (same at) (a.2 at s t there here),
)

-- the services below an index are explained, and from there on each has its front
pub record AreRightTo (live : List Service) (fronts left : List (Option (Front Watched)))
    (at : ℕ) : Type 0 where
  pub long : length left ≡ length live
  pub ahead : (i : ℕ) → at ≤ i → front_at left i ≡ front_at fronts i
  pub right : (services : List Service) → All IsOrderly services → AreShort services live fronts
      → (i : ℕ) (s : Service) → i < at → slice_get services i ≡ Some s → IsSeenRightly s

pub right_to_none : (live : List Service) (fronts left : List (Option (Front Watched)))
    → length left ≡ length live → AreSameFronts fronts left → AreRightTo live fronts left 0
right_to_none live fronts left long same = record {
  long = long;
  ahead = λ i h. same i;
  right = λ services o a i s h there. absurd (omega arith);
}

module _ (live : List Service) (fronts left : List (Option (Front Watched))) (at : ℕ)
    (t : Service) (front : Option (Front Watched)) (here : slice_get live at ≡ Some t)
    (own : front_at left at ≡ front) (r : AreRightTo live fronts left at)
  where
    same_front : front_at fronts at ≡ front
    same_front = sym (r.ahead at (omega arith)) ∙ own

    pub right_short : HaveShort live fronts → HasShort t front
    right_short h =
        let f = found_at h.0 live fronts at t h.2 here in
        (f.0, all_get IsOrderly h.0 at f.0 h.1 f.1, rw same_front at f.2)

    pub right_to_more : (new : Option (Front Watched)) → IsRightShort t front
        → AreRightTo live fronts (slice_set left at new) (at + 1)
    right_to_more new is = record {
      long = length-set left at new ∙ r.long;
      ahead = λ i h.
          get_or-set_other left at i new None (λ e. absurd (omega arith)) ∙ r.ahead i (omega arith);
      right = λ services o a i s h there. elim (cases_lt i at) [
        | inl below ↦ r.right services o a i s below there
        | inr above ↦
            let same : i ≡ at = omega arith in
            let own = rw same at there in
            is s (all_get IsOrderly services at s o own) (rw same_front at (a.2 at s t own here))
      ];
    }

pub right_all : (live : List Service) (fronts left : List (Option (Front Watched))) (at : ℕ)
    → length live ≤ at → AreRightTo live fronts left at → AreRightShort live fronts
right_all live fronts left at all r services o a =
    all_of IsSeenRightly services (λ i s there.
    r.right services o a i s (omega (arith, a.0, slice_get_within services i s there)) there)

-- as many commands are kept as were read
calls_same : (services live : List Service) (fronts : List (Option (Front Watched)))
    → AreShort services live fronts
    → sum_by (λ (s : Service). length s.commands) live
    ≡ sum_by (λ (s : Service). length s.commands) services
calls_same services live fronts a =
    let count : Service → ℕ = λ s. length s.commands in
    sym (sum-map count live)
    ∙ (ap sum (map_same count services live a.0 (λ at s t there here.
    ap count (a.2 at s t there here).is))
    ∙ sum-map count services)

pub no_more : (xs : List ℕ) → true ≡ (length xs == 0) → xs ≡ []
no_more [] e = refl
no_more (y ∷ ys) e = grind arith

-- before the first line
pub short_none : (bytes : List ℕ) (log : Log) → log.services ≡ [] → log.waits ≡ None
    → IsAbove bytes log bytes 1 → IsShortAbove bytes log [] bytes 1
short_none bytes log services waits above = record {
  log = log;
  above = above;
  short = record {
    services = rw services (refl, omega arith, λ at s t there here. absurd (cc));
    callers = refl;
    waits = refl;
  };
}

-- what is kept of the lines above one
module _ (bytes : List ℕ) (live : Log) (fronts : List (Option (Front Watched))) (rest : List ℕ)
    (k : ℕ) (h : IsShortAbove bytes live fronts rest k)
  where
    pub above_sane : IsSane live
    above_sane = short_sane h.log live fronts h.short h.above.kept

    pub above_short : HaveShort live.services fronts
    above_short = (h.log.services, h.above.kept.orderly, h.short.services)

    pub short_more : (new : Log) (text after : List ℕ) → HasNo 10 text → rest ≡ text ++ 10 ∷ after
        → Takes live k text None new → IsShortAbove bytes new fronts after (k + 1)
    short_more new text after bars comes t =
        elim t [
          | inl same ↦ record {
            log = h.log;
            above = above_more bytes h.log h.log rest k text after h.above bars comes
                (inl (same.0, refl));
            short = rw same.1 h.short;
          }
          | inr goes ↦
              let g = goes_line h.log live new fronts k h.short h.above.kept goes.0 goes.3 in
              record {
                log = g.0;
                above = above_more bytes h.log g.0 rest k text after h.above bars comes
                    (inr (goes.0, goes.1, goes.2, g.1));
                short = g.2;
              }
        ]

    pub short_stays : (new : Log) (next : List (Option (Front Watched)))
        → new.callers ≡ live.callers → new.waits ≡ live.waits
        → StayAll live.services fronts new.services next
        → IsShortAbove bytes new next rest k
    short_stays new next callers waits stay = record {
      log = h.log;
      above = h.above;
      short = record {
        services = stay h.log.services h.above.kept.orderly h.short.services;
        callers = callers ∙ h.short.callers;
        waits = waits ∙ h.short.waits;
      };
    }

    -- fewer commands are kept than lines were read
    pub few_short : sum_by (λ (s : Service). length s.commands) live.services < k
    few_short =
        omega (arith, calls_same h.log.services live.services fronts h.short.services)

    module _ (empty : rest ≡ []) (waits : live.waits ≡ None) (some : 0 < length live.services)
      where
        read_short : IsReadTo bytes h.log.services None
        read_short =
            read_whole bytes h.log rest k h.above empty
            (rw empty (All-nil (λ b. b ≢ 10)))
            (sym h.short.waits ∙ waits) (omega (arith, h.short.services.0))

        pub judged_short : AreRightShort live.services fronts
            → Judged bytes (end_verdict live.services)
        judged_short right =
            judged_conforms bytes h.log.services
            (sum_by (λ (s : Service). length s.commands) live.services) (services_in live.services)
            read_short (right h.log.services h.above.kept.orderly h.short.services)
            (calls_same h.log.services live.services fronts h.short.services)
            (ap (distinct_count eqb)
            (short_numbers h.log.services live.services fronts h.short.services))
