-- What is kept of a service after one line more.
use Rattle.history_logs.proofs.Words.{Begin, Begins, Begun, End, Event, Front, Gives, HasEnded, HasFront, IsOrderly, IsShort, Judged, List, NamedCommand, None, Option, Part, SeenReply, Service, ServiceLine, Some, StartsAs, State, Watched, [], ap, append_assoc, arith, begun, begun_none, called, calls_answered, calls_shown, cases_eq, cases_lt, changed, inl, inr, judged_answered, length, length-append, nil_from_length, numbered, option_map, refl, same_Some, shown, slice_get, start_of, started, starting, stopped, stopping, subst, suc, sym, take, unseen, weak, with_alone, with_begin, with_end, with_look, with_over, with_part, zero, ℕ, ◌++◌, ◌+◌, ◌∙◌, ◌∷◌, ◌≡◌, ◌≢◌, ◌≤◌, ◌⊎◌}
use Rattle.std.proofs.lemmas.List.{take-append-le}
use Rattle.histories.proofs.Events.{ended_still}
use Rattle.service_conformance.specs.Judged.Judged.{call}
use Rattle.service_descriptions.specs.declared.replay.machine.command.Command.{Command}
use Rattle.service_descriptions.specs.declared.replay.machine.command.Command.TheVariants as command
use Rattle.history_logs.specs.Seen.{IsKeptCall, handle_named}
use Rattle.history_logs.specs.Settling.{shortened}
use Rattle.iox2_dynamic.specs.Service as dynamic
use Rattle.log_lines.specs.Commands.Begun.{command as begun_command}
use Rattle.service_conformance.specs.Sides.{HasPart, LacksPart}
use Rattle.history_logs.proofs.Orderly.{both, length_answered, open_new}
use Rattle.history_logs.proofs.Answering.{called_stops}

-- lists with one more at the end
pub get_pushed : {X : Type 0} (xs ys : List X) (x : X) (n : ℕ) → length xs ≡ length ys
    → slice_get xs n ≡ slice_get ys n
    → slice_get (xs ++ x ∷ []) n ≡ slice_get (ys ++ x ∷ []) n
get_pushed [] [] x n same is = refl
get_pushed [] (b ∷ ys) x n same is = absurd (omega arith)
get_pushed (a ∷ xs) [] x n same is = absurd (omega arith)
get_pushed (a ∷ xs) (b ∷ ys) x zero same is = is
get_pushed (a ∷ xs) (b ∷ ys) x (suc n) same is = get_pushed xs ys x n (omega arith) is

-- the number with which a weak listing began, where one call more has begun
pub start_left : (xs : List Judged) (c : Judged) (n start : ℕ)
    → start_of (xs ++ c ∷ []) n ≡ Some start
    → (start_of xs n ≡ Some start) ⊎ ((n ≡ length xs) × (stopped c ≡ Some start))
start_left [] c zero start is = inr (refl, is)
start_left [] c (suc n) start is = absurd (cc)
start_left (x ∷ xs) c zero start is = inl is
start_left (x ∷ xs) c (suc n) start is =
    elim (start_left xs c n start is) [
      | inl before ↦ inl before
      | inr last ↦ inr (ap suc last.0, last.1)
    ]

-- calls of which one is another
pub get_changed : (f : Judged → Judged) (xs : List Judged) (n : ℕ)
    → slice_get (changed f xs n) n ≡ option_map f (slice_get xs n)
get_changed f [] n = refl
get_changed f (x ∷ xs) zero = refl
get_changed f (x ∷ xs) (suc n) = get_changed f xs n

pub get_unchanged : (f : Judged → Judged) (xs : List Judged) (n m : ℕ) → m ≢ n
    → slice_get (changed f xs n) m ≡ slice_get xs m
get_unchanged f [] n m ne = refl
get_unchanged f (x ∷ xs) zero zero ne = absurd (ne refl)
get_unchanged f (x ∷ xs) zero (suc m) ne = refl
get_unchanged f (x ∷ xs) (suc n) zero ne = refl
get_unchanged f (x ∷ xs) (suc n) (suc m) ne = get_unchanged f xs n m (λ e. ne (ap suc e))

changed_same : (f : Judged → Judged) (xs ys : List Judged) (n m : ℕ)
    → slice_get xs m ≡ slice_get ys m
    → slice_get (changed f xs n) m ≡ slice_get (changed f ys n) m
changed_same f xs ys n m is =
    elim (cases_eq m n) [
      | inl same ↦ rw (← same, get_changed f xs m, get_changed f ys m, is) refl
      | inr other ↦ get_unchanged f xs n m other ∙ (is ∙ sym (get_unchanged f ys n m other))
    ]

take_changed : (f : Judged → Judged) (xs : List Judged) (b n : ℕ) → b ≤ n
    → take b (changed f xs n) ≡ take b xs
take_changed f [] b n h = refl
take_changed f (x ∷ xs) zero n h = refl
take_changed f (x ∷ xs) (suc b) zero h = absurd (omega arith)
take_changed f (x ∷ xs) (suc b) (suc n) h =
    ap (λ (l : List Judged). x ∷ l) (take_changed f xs b n (omega arith))

start_changed : (f : Judged → Judged) → ((c : Judged) → stopped (f c) ≡ stopped c)
    → (xs : List Judged) (n m : ℕ) → start_of (changed f xs n) m ≡ start_of xs m
start_changed f same [] n m = refl
start_changed f same (x ∷ xs) zero zero = same x
start_changed f same (x ∷ xs) zero (suc m) = refl
start_changed f same (x ∷ xs) (suc n) zero = refl
start_changed f same (x ∷ xs) (suc n) (suc m) = start_changed f same xs n m

stopped_shown : (r : SeenReply) (c : Judged) → stopped (shown c r) ≡ stopped c
stopped_shown r (call c) = refl
stopped_shown r _ = refl

stopped_answered : (r : SeenReply) (c : Judged) → stopped (judged_answered c r) ≡ stopped c
stopped_answered r (call c) = refl
stopped_answered r _ = refl

-- a reply
module _ (r : SeenReply) where
  start_shown : (xs : List Judged) (start : Option ℕ) (m : ℕ)
      → start_of (calls_shown xs start r) m ≡ start_of xs m
  start_shown xs None m = refl
  start_shown xs (Some start) m = start_changed (λ c. shown c r) (stopped_shown r) xs start m

  pub start_answered : (xs : List Judged) (n m : ℕ)
      → start_of (calls_answered xs n r) m ≡ start_of xs m
  start_answered xs n m =
      start_changed (λ c. judged_answered c r) (stopped_answered r)
      (calls_shown xs (start_of xs n) r) n m ∙ start_shown xs (start_of xs n) m

  shown_same : (xs ys : List Judged) (start : Option ℕ) (m : ℕ)
      → slice_get xs m ≡ slice_get ys m
      → slice_get (calls_shown xs start r) m ≡ slice_get (calls_shown ys start r) m
  shown_same xs ys None m is = is
  shown_same xs ys (Some start) m is = changed_same (λ c. shown c r) xs ys start m is

  pub answered_same : (xs ys : List Judged) (n m : ℕ) → slice_get xs n ≡ slice_get ys n
      → slice_get xs m ≡ slice_get ys m
      → slice_get (calls_answered xs n r) m ≡ slice_get (calls_answered ys n r) m
  answered_same xs ys n m own is =
      changed_same (λ c. judged_answered c r) (calls_shown xs (start_of xs n) r)
      (calls_shown ys (start_of ys n) r) n m
      (rw own (shown_same xs ys (start_of ys n) m is))

  take_shown : (xs : List Judged) (b : ℕ) (start : Option ℕ)
      → ((from : ℕ) → start ≡ Some from → b ≤ from)
      → take b (calls_shown xs start r) ≡ take b xs
  take_shown xs b None low = refl
  take_shown xs b (Some start) low = take_changed (λ c. shown c r) xs b start (low start refl)

  pub take_answered : (xs : List Judged) (b n : ℕ) → b ≤ n
      → ((from : ℕ) → start_of xs n ≡ Some from → b ≤ from)
      → take b (calls_answered xs n r) ≡ take b xs
  take_answered xs b n h low =
      take_changed (λ c. judged_answered c r) (calls_shown xs (start_of xs n) r) b n h
      ∙ take_shown xs b (start_of xs n) low

-- what a command is, where something is forgotten
module _ (s live : Service) where
  named_same : (c : Command) → handle_named (shortened s live) c ≡ handle_named s c
  named_same (command.Deregister n) = refl
  named_same (command.Release n) = refl
  named_same _ = refl

  pub called_same : (c : NamedCommand) → called (shortened s live) c ≡ called s c
  called_same (numbered c) = rw (named_same c) refl
  called_same _ = refl

-- one event more
abbrev pub with_one : Service → Event → ℕ → Service
with_one s e line = record s {
  events = s.events ++ e ∷ [];
  event_lines = s.event_lines ++ line ∷ [];
}

module _ (s live : Service) (front : Option (Front Watched)) (h : IsShort s live front) where
  -- One event more. No call changes that began in the events that are forgotten. If a weak listing
  -- stops, it began behind them.
  module _ (t more : Service) (e : Event) (is : more ≡ shortened t more)
      (events : t.events ≡ s.events ++ e ∷ []) (left : more.events ≡ live.events ++ e ∷ [])
      (start : t.start ≡ s.start) (first : more.first ≡ live.first)
      (count : length more.calls ≡ length t.calls) (long : length s.calls ≤ length t.calls)
      (calls : (n : ℕ) → live.first ≤ n → slice_get more.calls n ≡ slice_get t.calls n)
      (same : take (begun h.past) t.calls ≡ take (begun h.past) s.calls)
      (starts : (n from : ℕ) → start_of t.calls n ≡ Some from
      → (start_of s.calls n ≡ Some from) ⊎ ((from + 1 ≡ n) × (begun h.past ≤ from)))
    where
      pub ended : (n : ℕ) → HasEnded s.events n → HasEnded t.events n
      ended n over = rw events (ended_still s.events e n over)

      pub still : (f : Option (Front Watched)) → HasFront s live h.past f
          → HasFront t more h.past f
      still None none = none
      still (Some f) settled = record {
        slots = λ slot c has. omega (arith, settled.slots slot c has);
        some = omega (arith, settled.some);
        front_of = λ final agrees. rw start (settled.front_of final (agrees ∙ same));
      }

      abbrev pub short_event : IsShort t more front
      short_event = record {
        is = is;
        count = count;
        calls = λ n low. calls n (omega arith);
        stops = λ n from at. elim (starts n from at) [
          | inl before ↦ h.stops n from before
          | inr new ↦ new.0
        ];
        past = h.past;
        events = rw (events, left, h.events) (append_assoc h.past live.events (e ∷ []));
        within = omega (arith, h.within);
        over = λ n low. ended n (h.over n low);
        shows = λ n from at low. elim (starts n from at) [
          | inl before ↦ ended n (h.shows n from before low)
          | inr new ↦ absurd (omega arith)
        ];
        first = omega (arith, h.first);
        has = still front h.has;
      }

  -- a call begins
  module _ (c : Judged) (line : ℕ)
      (next : (start : ℕ) → stopped c ≡ Some start
      → (start + 1 ≡ length s.calls) × (begun h.past ≤ start))
    where
      pub events : s.events ++ Begin (length s.calls) ∷ []
          ≡ s.events ++ Begin (length live.calls) ∷ []
      events = ap (λ n. s.events ++ Begin n ∷ []) (sym h.count)

      pub longer : length s.calls ≤ length (s.calls ++ c ∷ [])
      longer = omega (arith, length-append s.calls (c ∷ []))

      pub calls : (n : ℕ) → live.first ≤ n
          → slice_get (live.calls ++ c ∷ []) n ≡ slice_get (s.calls ++ c ∷ []) n
      calls n low = get_pushed live.calls s.calls c n h.count (h.calls n low)

      pub settled : take (begun h.past) (s.calls ++ c ∷ []) ≡ take (begun h.past) s.calls
      settled = take-append-le (begun h.past) s.calls (c ∷ []) h.within

      pub starts : (n start : ℕ) → start_of (s.calls ++ c ∷ []) n ≡ Some start
          → (start_of s.calls n ≡ Some start) ⊎ ((start + 1 ≡ n) × (begun h.past ≤ start))
      starts n start at =
          elim (start_left s.calls c n start at) [
            | inl before ↦ inl before
            | inr last ↦ let from = next start last.1 in inr (from.0 ∙ sym last.0, from.1)
          ]

      abbrev pub short_part : IsShort (with_part s c line) (with_part live c line) front
      short_part =
          short_event (with_part s c line) (with_part live c line) (Begin (length live.calls))
          (ap (λ (x : Service). with_part x c line) h.is) events refl refl refl
          (both live.calls s.calls c c h.count) longer calls settled starts

      abbrev pub short_command : IsShort (with_begin s c line) (with_begin live c line) front
      short_command =
          short_event (with_begin s c line) (with_begin live c line) (Begin (length live.calls))
          (ap (λ (x : Service). with_begin x c line) h.is ∙ rw h.count refl) events refl refl refl
          (both live.calls s.calls c c h.count) longer calls settled starts

  -- a call that is no weak listing that stops
  pub no_stop : (c : Judged) → stopped c ≡ None → (start : ℕ) → stopped c ≡ Some start
      → (start + 1 ≡ length s.calls) × (begun h.past ≤ start)
  no_stop c none start is = absurd (cc)

  abbrev pub short_begin : (c : Judged) (line : ℕ) → stopped c ≡ None
      → IsShort (with_begin s c line) (with_begin live c line) front
  short_begin c line none = short_command c line (no_stop c none)

  -- a call ends, or its caller crashes, and its reply is not seen
  abbrev pub short_over : (e : Event) (line : ℕ)
      → IsShort (with_one s e line) (with_one live e line) front
  short_over e line =
      short_event (with_one s e line) (with_one live e line) e
      (ap (λ (x : Service). with_one x e line) h.is) refl refl refl refl h.count (omega arith)
      h.calls refl (λ n from at. inl at)

  -- an open call is answered
  module _ (number : ℕ) (now : ¬ (HasEnded s.events number)) where
    late : begun h.past ≤ number
    late =
        elim (cases_lt number (begun h.past)) [
          | inl before ↦ absurd (now (h.over number before))
          | inr after ↦ after
        ]

    late_start : (from : ℕ) → start_of s.calls number ≡ Some from → begun h.past ≤ from
    late_start from at =
        elim (cases_lt from (begun h.past)) [
          | inl before ↦ absurd (now (h.shows number from at before))
          | inr after ↦ after
        ]

    low : live.first ≤ number
    low = omega (arith, h.first, late)

    -- the call is kept, and the weak listing that it stops
    pub kept_call : IsKeptCall live number
    kept_call = record {
      call = low;
      start = λ from is.
          omega (arith, h.first, late_start from (rw (h.calls number low) at is));
    }

    pub short_end : (r : SeenReply) (line : ℕ)
        → IsShort (with_end s number r line) (with_end live number r line) front
    short_end r line =
        short_event (with_end s number r line) (with_end live number r line) (End number)
        (ap (λ (x : Service). with_end x number r line) h.is ∙ rw (h.calls number low) refl) refl
        refl refl refl
        (length_answered live.calls number r
        ∙ (h.count ∙ sym (length_answered s.calls number r)))
        (omega (arith, length_answered s.calls number r))
        (λ n from.
        answered_same r live.calls s.calls number n (h.calls number low) (h.calls n from))
        (take_answered r s.calls (begun h.past) number late late_start)
        (λ n from at. inl (sym (start_answered r s.calls number n) ∙ at))

-- a service that is kept so
module _ (s live : Service) (front : Option (Front Watched)) (h : IsShort s live front) where
  pub short_look : (p : Part) (line : ℕ)
      → IsShort (with_look s p line) (with_look live p line) front
  short_look p line =
      let n = length s.calls in
      let one = with_begin s (starting p) line in
      let other = with_begin live (starting p) line in
      let first = short_begin s live front h (starting p) line refl in
      let second = short_over one other front first (End n) line in
      let next : (start : ℕ) → stopped (stopping n) ≡ Some start
      → (start + 1 ≡ length one.calls) × (begun h.past ≤ start) =
      λ start is. (
        omega (arith, same_Some n start is, length-append s.calls ((starting p) ∷ [])),
        omega (arith, same_Some n start is, h.within),
      ) in
      subst (λ m. IsShort (with_look s p line)
      (with_part (with_over other m line) (stopping m) line) front) (sym h.count)
      (short_part (with_over one n line) (with_over other n line) front second (stopping n) line
      next)

  pub same_call : (c : NamedCommand) → called live c ≡ called s c
  same_call c = ap (λ (x : Service). called x c) h.is ∙ called_same s live c

  -- the call of a command
  short_call : (c : NamedCommand) (line : ℕ) (t : Service)
      → t ≡ with_begin live (called live c) line → IsShort (with_begin s (called s c) line) t front
  short_call c line t is =
      rw (is, same_call c) (short_begin s live front h (called s c) line (called_stops s c))

  pub short_alone : (c : NamedCommand) (r : SeenReply) (line : ℕ) → IsOrderly s
      → IsShort (with_alone s (called s c) r line) (with_alone live (called live c) r line) front
  short_alone c r line orderly =
      let d = called s c in
      let one = with_begin s d line in
      let other = with_begin live d line in
      subst (λ (x : Judged). IsShort (with_alone s d r line) (with_alone live x r line) front)
      (sym (same_call c))
      (subst (λ n. IsShort (with_alone s d r line) (with_end other n r line) front) (sym h.count)
      (short_end one other front (short_begin s live front h d line (called_stops s c))
      (length s.calls) (open_new s d line orderly).1 r line))

  pub short_begins : (b : Begun) (line : ℕ) (t : Service) (current : ℕ)
      → Begins live b line t current
      → (new : Service) × Begins s b line new current × IsShort new t front
  short_begins (begun_command c) line t current is =
      (with_begin s (called s c) line, (refl, is.1 ∙ h.count), short_call c line t is.0)
  short_begins (weak r) line t current (inl looks) = (
    with_look s looks.0 line,
    inl (
      looks.0,
      subst (λ (x : Service). HasPart x.start.pattern r looks.0) h.is looks.1,
      refl,
      looks.3 ∙ ap (λ n. n + 1) h.count,
    ),
    rw looks.2 (short_look looks.0 line),
  )
  short_begins (weak r) line t current (inr lists) =
      let c = numbered (command.List r) in (
        with_begin s (called s c) line,
        inr (
          subst (λ (x : Service). LacksPart x.start.pattern r) h.is lists.0,
          refl,
          lists.2 ∙ h.count,
        ),
        short_call c line t lists.1,
      )

  pub short_started : (what : State) (start : dynamic.Service) → StartsAs live what start
      → StartsAs s what start × IsShort (started s start) (started live start) front
  short_started what start is =
      let none : length s.calls ≡ 0 = sym h.count ∙ ap length is.0 in (
        (
          nil_from_length s.calls none,
          subst (λ (x : Service). Gives x.start what start) h.is is.1,
        ),
        record {
          is = ap (λ (x : Service). started x start) h.is;
          count = h.count;
          calls = h.calls;
          stops = h.stops;
          past = h.past;
          events = h.events;
          within = h.within;
          over = h.over;
          shows = h.shows;
          first = h.first;
          has = start_front front h.has none;
        },
      )
    where
      start_front : (f : Option (Front Watched)) → HasFront s live h.past f
          → length s.calls ≡ 0 → HasFront (started s start) (started live start) h.past f
      start_front None is none = is
      start_front (Some f) is none = absurd (omega (arith, is.some, none))

-- a service that begins
pub short_new : (line : ServiceLine) (start : dynamic.Service)
    → IsShort (started (unseen line) start) (started (unseen line) start) None
short_new line start = record {
  is = refl;
  count = refl;
  calls = λ n h. refl;
  stops = λ n start is. absurd (cc);
  past = [];
  events = refl;
  within = omega (arith, begun_none);
  over = λ n h. absurd (omega (arith, begun_none));
  shows = λ n from is h. absurd (omega (arith, begun_none));
  first = omega arith;
  has = refl;
}
