-- What settles of a service while a log is read.
use Rattle.history_logs.proofs.Words.{AreOver, Begin, Calls, Crash, End, Event, Front, GoesShort, HasEnded, HasShort, HasSlot, IsFrontAfter, IsHistory, IsOpen, IsOrderly, IsShort, Judged, List, MayFollow, MayFollowAt, None, Option, Service, Some, Stays, StepOf, Watched, WindowStep, [], add-one, ap, append_assoc, arith, begins, begins-append, begun, begun_none, cases_lt, counts_begin, counts_crash, counts_end, drop, flat_map, fold, forgetting, forgotten, get_or, inl, inr, length, min, news, one_more, option_to_list, refl, replicate, same_Some, slice_get, slice_get-get_or, stands_begins, stands_take, start_of, suc, sym, take, take-append-drop, take-take, take_all, times_one, zero, ℕ, ◌++◌, ◌+◌, ◌<◌, ◌∙◌, ◌∷◌, ◌≡◌, ◌≤◌, ◌⊎◌}
use Rattle.histories.proofs.Events.{begins_stands, begins_begin, begins_ends, ended_right, open_parts, open_whole}
use Rattle.histories.proofs.Verdicts.{begun-append, history_past, history_sound}
use Rattle.histories.specs.Windows.{HasPast, Precedes}
use Rattle.histories.proofs.Following.{slot_open, no_slot}
use Rattle.history_logs.specs.Settling.{IsBehindBegun}
use Rattle.history_logs.proofs.Answering.{get_forgotten, length_forgotten, step_same}

-- the least number of a call that has a slot, or the limit
pub record IsLeast (slots : List (Option ℕ)) (limit least : ℕ) : Type 0 where
  pub most : least ≤ limit
  pub each : (slot call : ℕ) → HasSlot slots slot call → least ≤ call
  pub is : (least ≡ limit) ⊎ ((slot : ℕ) × HasSlot slots slot least)

first_or : (s : Option ℕ) (slots : List (Option ℕ)) (slot call : ℕ) → HasSlot (s ∷ slots) slot call
    → (s ≡ Some call) ⊎ ((k : ℕ) × HasSlot slots k call)
first_or s slots zero call has = inl has
first_or s slots (suc k) call has = inr (k, has)

pub least_is : (slots : List (Option ℕ)) (limit : ℕ)
    → IsLeast slots limit (fold (λ a b. min a b) limit (flat_map option_to_list slots))
least_is [] limit =
    record { most = omega arith; each = λ slot call has. absurd (cc); is = inl refl }
least_is (None ∷ slots) limit =
    let l = least_is slots limit in
    record {
      most = l.most;
      each = λ slot call has. elim (first_or None slots slot call has) [
        | inl own ↦ absurd (cc)
        | inr later ↦ l.each later.0 call later.1
      ];
      is = elim l.is [ inl same ↦ inl same | inr has ↦ inr (suc has.0, has.1) ];
    }
least_is (Some c ∷ slots) limit =
    let l = least_is slots (min limit c) in
    record {
      most = omega (arith, l.most);
      each = λ slot call has. elim (first_or (Some c) slots slot call has) [
        | inl own ↦ omega (arith, l.most, same_Some c call own)
        | inr later ↦ l.each later.0 call later.1
      ];
      is = elim l.is [
        | inl same ↦ lesser _ same
        | inr has ↦ inr (suc has.0, has.1)
      ];
    }
  where
    lesser : (n : ℕ) → n ≡ min limit c
        → (n ≡ limit) ⊎ ((slot : ℕ) × HasSlot (Some c ∷ slots) slot n)
    lesser n same = elim (cases_lt c limit) [
      | inl less ↦ let is : c ≡ n = omega (arith, same, less) in inr (0, ap Some is)
      | inr not ↦ inl (omega (arith, same, not))
    ]

-- an event that begins a call stands in them
pub begins_at : (events : List Event) (k : ℕ) (d : Event) (call : ℕ) → k < length events
    → get_or events k d ≡ Begin call → 0 < begins call events
begins_at events k d call within is =
    stands_begins call events k (slice_get-get_or events k d within ∙ ap Some is)

-- where so many of the first events may be followed, the calls that begin in them are over
pub over_upto : (s : Service) (n : ℕ) → ((k : ℕ) → k < n → MayFollowAt s k)
    → AreOver s (take n s.events)
over_upto s n each call some =
    let (k, at) = begins_stands call (take n s.events) some in
    let there = stands_take s.events n k (Begin call) at in each k there.1 call there.0

-- where each number below the count has begun, it has after one event more
begun_more : (es : List Event) (e : Event) (n : ℕ) → MayFollow es e → n < begun (es ++ e ∷ [])
    → (n < begun es → 0 < begins n es) → 0 < begins n (es ++ e ∷ [])
begun_more es (Begin c) n may less before =
    elim (cases_lt n (begun es)) [
      | inl below ↦ omega (arith, before below, begins_begin n c es)
      | inr above ↦
          let same : n ≡ c = omega (arith, counts_begin (begun es) c es refl) in
          rw same (omega (arith, begins_begin c c es, times_one c))
    ]
begun_more es (End c) n may less before =
    omega (
      arith,
      before (omega (arith, counts_end (begun es) c es refl)),
      begins_ends n c es (End c) (inl refl),
    )
begun_more es (Crash c) n may less before =
    omega (
      arith,
      before (omega (arith, counts_crash (begun es) c es refl)),
      begins_ends n c es (Crash c) (inr refl),
    )

-- so it is in a history
begun_upto : (es : List Event) → IsHistory es → (i : ℕ) → i ≤ length es → (n : ℕ)
    → n < begun (take i es) → 0 < begins n (take i es)
begun_upto es history zero h n less = absurd (omega (arith, begun_none))
begun_upto es history (suc i) h n less =
    let within : i < length es = omega arith in
    let e = get_or es i (Begin 0) in
    let more : take (suc i) es ≡ take i es ++ e ∷ [] =
    rw (← add-one) (one_more es i (Begin 0) within) in
    rw more (begun_more (take i es) e n (history i e (slice_get-get_or es i (Begin 0) within))
    (rw more at less) (begun_upto es history i (omega arith) n))

all_begun : (es : List Event) → IsHistory es → (n : ℕ) → n < begun es → 0 < begins n es
all_begun es history =
    rw (← take_all (length es) es (omega arith)) (begun_upto es history (length es) (omega arith))

-- a call that begins behind the first part of a history has none of its numbers
begun_behind : (past rest : List Event) → IsHistory (past ++ rest) → (n : ℕ) → 0 < begins n rest
    → begun past ≤ n
begun_behind past rest history n some =
    elim (cases_lt n (begun past)) [
      | inl less ↦
          absurd (omega (
            arith,
            all_begun past (history_past past rest history) n less,
            (history_sound (past ++ rest) history).0.once n,
            begins-append n past rest,
          ))
      | inr above ↦ above
    ]

get_take : {X : Type 0} (b : ℕ) (xs : List X) (n : ℕ) → n < b
    → slice_get (take b xs) n ≡ slice_get xs n
get_take zero xs n h = absurd (omega arith)
get_take (suc b) [] n h = refl
get_take (suc b) (x ∷ xs) zero h = refl
get_take (suc b) (x ∷ xs) (suc n) h = get_take b xs n (omega arith)

slot_is_open : {S : Type 0} (Step : S → ℕ → S → Type 0) (olds : List S) (es : List Event)
    (front : Front S) → IsFrontAfter Step olds es front → (slot c : ℕ)
    → HasSlot front.slots.items slot c → IsOpen es c
slot_is_open Step olds es front f slot c has =
    let w = f.1.is in
    rw w.split (open_whole w.past w.inside c f.1.first (rw w.split at f.1.whole)
    (w.front.table.each slot c has))

-- calls from one on are made as the machine makes them
abbrev pub StepIn : Calls → Watched → ℕ → Watched → Type 0
StepIn m old call new = WindowStep m.first m.calls.now old call new

-- the machine of all calls of a service
abbrev pub with_calls : Calls → List Judged → Calls
with_calls m calls = record m { first = 0; calls = record m.calls { now = calls } }

-- what was seen goes on
module _ (live s : Service) (front : Front Watched) (count : ℕ) (o : IsOrderly s)
    (k : IsShort s live (Some front))
  where
    abbrev followed : List Event
    followed = take count live.events

    abbrev upto : List Event
    upto = k.past ++ followed

    whole : s.events ≡ upto ++ drop count live.events
    whole =
        rw (
          append_assoc k.past followed (drop count live.events),
          take-append-drop count live.events,
        ) k.events

    history : IsHistory (upto ++ drop count live.events)
    history = rw (← whole) o.history

    history_to : IsHistory upto
    history_to = history_past upto (drop count live.events) history

    own_front : IsFrontAfter (StepOf s) (news s) k.past front
    own_front = k.has.front_of s.calls refl

    low : (c : ℕ) → (IsOpen k.past c ⊎ (0 < begins c followed)) → live.first ≤ c
    low c (inl is) =
        let slot = slot_open (StepOf s) (news s) k.past front own_front c is in
        k.has.slots slot.0 c slot.1
    low c (inr some) = omega (arith, k.first, begun_behind k.past followed history_to c some)

    -- the front has gone on with the events that a machine followed, whatever replies come later
    module _ (m : Calls) (first : m.first ≡ live.first)
        (kept : live.calls ≡ replicate live.first forgotten ++ m.calls.now)
      where
        precedes : (final : List Judged) → IsFrontAfter (WindowStep 0 final) (news s) k.past front
            → ((c : ℕ) → (IsOpen k.past c ⊎ (0 < begins c followed))
            → slice_get s.calls c ≡ slice_get final c)
            → Precedes StepIn m front followed (with_calls m final) k.past (news s)
        precedes final f same = record {
          history = history_to;
          agrees = λ c which old new.
              step_same m.first m.calls.now final c (omega (arith, low c which))
              (rw (first, ← kept) (k.calls c (low c which) ∙ same c which)) old new;
          front_of = f;
        }

        own_past : HasPast StepIn m front followed
        own_past =
            (with_calls m s.calls, k.past, news s, precedes s.calls own_front (λ c which. refl))

        module _ (new : Front Watched)
            (goes : (all : Calls) (past : List Event) (olds : List Watched)
            → Precedes StepIn m front followed all past olds
            → IsFrontAfter (StepIn all) olds (past ++ followed) new) (final : List Judged)
            (same : take (begun upto) final ≡ take (begun upto) s.calls)
          where
            numbered : (c : ℕ) → 0 < begins c upto → c < begun upto
            numbered =
                (goes (with_calls m s.calls) k.past (news s) (precedes s.calls own_front
                (λ c which. refl))).1.numbered

            agreed : (c : ℕ) → c < begun upto → slice_get s.calls c ≡ slice_get final c
            agreed c less =
                sym (get_take (begun upto) s.calls c less)
                ∙ (ap (λ (l : List Judged). slice_get l c) (sym same)
                ∙ get_take (begun upto) final c less)

            final_calls : (c : ℕ) → (IsOpen k.past c ⊎ (0 < begins c followed))
                → slice_get s.calls c ≡ slice_get final c
            final_calls c (inl is) =
                agreed c (numbered c (omega (arith, is.0, begins-append c k.past followed)))
            final_calls c (inr some) =
                agreed c (numbered c (omega (arith, begins-append c k.past followed)))

            front_goes : IsFrontAfter (WindowStep 0 final) (news s) upto new
            front_goes =
                let less : begun k.past ≤ begun upto =
                omega (arith, begun-append k.past followed) in
                goes (with_calls m final) k.past (news s)
                (precedes final (k.has.front_of final
                (rw (← take-take (begun k.past) (begun upto) final less, same)
                (take-take (begun k.past) (begun upto) s.calls less))) final_calls)

    -- the front has gone on, and what lies before this number is forgotten
    module _ (new : Front Watched) (goes : GoesShort live front count new)
        (known : AreOver live followed) (most first : ℕ)
        (last : IsBehindBegun live.first followed most) (less : first ≤ most)
        (slots : (slot call : ℕ) → HasSlot new.slots.items slot call → first ≤ call)
        (least : (first ≡ most) ⊎ ((slot : ℕ) × HasSlot new.slots.items slot first))
      where
        own : IsFrontAfter (StepOf s) (news s) upto new
        own = goes s o k s.calls refl

        all_upto : begun upto ≤ length s.calls
        all_upto =
            omega (arith, o.counts, ap begun whole, begun-append upto (drop count live.events))

        first_upto : first ≤ begun upto
        first_upto =
            elim last [
              | inl same ↦ omega (arith, k.first, begun-append k.past followed)
              | inr some ↦
                  let more = begins-append some.0 k.past followed in
                  omega (arith, some.2.1, own.1.numbered some.0 (omega (arith, some.1)))
            ]

        first_low : live.first ≤ first
        first_low =
            elim least [
              | inl same ↦ elim last [
                | inl from ↦ omega arith
                | inr some ↦ omega (arith, some.2.0, low some.0 (inr some.1))
              ]
              | inr there ↦
                  low first (open_parts k.past followed first
                  (slot_is_open (StepOf s) (news s) upto new own there.0 first there.1))
            ]

        first_within : first ≤ length live.calls
        first_within = omega (arith, first_upto, all_upto, k.count)

        -- a number of the new part
        begins_now : (n : ℕ) → n < begun upto → begun k.past ≤ n → 0 < begins n followed
        begins_now n inside late =
            elim (cases_lt 0 (begins n k.past)) [
              | inl old ↦ absurd (omega (arith, own_front.1.numbered n old))
              | inr none ↦
                  omega (arith, all_begun upto history_to n inside, begins-append n k.past followed)
            ]

        ended_whole : (n : ℕ) → HasEnded live.events n → HasEnded s.events n
        ended_whole n h = rw k.events (ended_right k.past live.events n h)

        over_now : (n : ℕ) → n < begun upto → HasEnded s.events n
        over_now n h =
            elim (cases_lt n (begun k.past)) [
              | inl old ↦ k.over n old
              | inr late ↦ ended_whole n (known n (begins_now n h late)).0
            ]

        shows_now : (n start : ℕ) → start_of s.calls n ≡ Some start → start < begun upto
            → HasEnded s.events n
        shows_now n start is h =
            elim (cases_lt start (begun k.past)) [
              | inl old ↦ k.shows n start is old
              | inr late ↦
                  let next = k.stops n start is in
                  let kept : start_of live.calls n ≡ Some start =
                  rw (k.calls n (omega (arith, k.first))) is in
                  rw (← next) (ended_whole (start + 1)
                  ((known start (begins_now start h late)).1 (rw next kept)))
            ]

        short_now : IsShort s (forgetting live first count) (Some new)
        short_now = record {
          is = ap (λ (x : Service). forgetting x first count) k.is;
          count = length_forgotten first forgotten live.calls first_within ∙ k.count;
          calls = λ n h.
              get_forgotten first forgotten live.calls n h
              ∙ k.calls n (omega (arith, first_low));
          stops = k.stops;
          past = upto;
          events = whole;
          within = all_upto;
          over = over_now;
          shows = shows_now;
          first = first_upto;
          has = record { slots = slots; some = k.has.some; front_of = goes s o k };
        }

-- a machine that keeps the calls of a service goes on with its events
pub has_past : (live : Service) (front : Front Watched) (count : ℕ) (m : Calls)
    → m.first ≡ live.first → live.calls ≡ replicate live.first forgotten ++ m.calls.now
    → HasShort live (Some front) → HasPast StepIn m front (take count live.events)
has_past live front count m first kept (s, o, k) = own_past live s front count o k m first kept

pub goes_short : (live : Service) (old new : Front Watched) (count : ℕ) (m : Calls)
    → m.first ≡ live.first → live.calls ≡ replicate live.first forgotten ++ m.calls.now
    → ((all : Calls) (past : List Event) (olds : List Watched)
    → Precedes StepIn m old (take count live.events) all past olds
    → IsFrontAfter (StepIn all) olds (past ++ take count live.events) new)
    → GoesShort live old count new
goes_short live old new count m first kept goes s o k final same =
    front_goes live s old count o k m first kept new goes final same

-- what is forgotten then
module _ (live : Service) (old new : Front Watched) (count most first : ℕ)
    (goes : GoesShort live old count new) (known : AreOver live (take count live.events))
    (last : IsBehindBegun live.first (take count live.events) most) (less : first ≤ most)
    (slots : (slot call : ℕ) → HasSlot new.slots.items slot call → first ≤ call)
    (least : (first ≡ most) ⊎ ((slot : ℕ) × HasSlot new.slots.items slot first))
  where
    pub may_forget : HasShort live (Some old) → (live.first ≤ first) × (first ≤ length live.calls)
    may_forget (s, o, k) = (
      first_low live s old count o k new goes known most first last less slots least,
      first_within live s old count o k new goes known most first last less slots least,
    )

    pub forgets : Stays live (Some old) (forgetting live first count) (Some new)
    forgets s o k = short_now live s old count o k new goes known most first last less slots least

-- the front before any event
pub began : (live : Service) (front : Front Watched) → 0 < length live.calls
    → ((final : List Judged) → IsFrontAfter (WindowStep 0 final) (news live) [] front)
    → Stays live None live (Some front)
began live front some f s o k =
    let start : news live ≡ news s = ap (λ (x : Service). news x) k.is in
    let own : (final : List Judged) → IsFrontAfter (WindowStep 0 final) (news s) [] front =
    λ final. rw start at (f final) in
    record {
      is = k.is;
      count = k.count;
      calls = k.calls;
      stops = k.stops;
      past = k.past;
      events = k.events;
      within = k.within;
      over = k.over;
      shows = k.shows;
      first = k.first;
      has = rw k.has (record {
        slots = λ slot c has. absurd (no_slot (StepOf s) (news s) front (own s.calls) slot c has);
        some = omega (arith, k.count);
        front_of = λ final same. own final;
      });
    }
