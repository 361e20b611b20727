-- What happened on a service stays a history.
use Rattle.history_logs.proofs.Words.{Begin, Begins, Begun, Crash, End, Event, IsOpen, IsOrderly, Judged, List, MayFollow, None, Option, Part, SeenReply, Service, ServiceLine, Some, [], ap, arith, begins, begun, begun_none, called, calls_answered, calls_shown, changed, command, counts_begin, counts_crash, counts_end, inl, inr, judged_answered, length, length-append, length-set, refl, shown, start_of, started, starting, stopping, subst, suc, sym, unseen, weak, with_begin, with_crash, with_end, with_look, with_over, with_part, zero, ℕ, ◌++◌, ◌+◌, ◌∙◌, ◌∷◌, ◌≡◌, ◌≢◌, ◌≤◌}
use Rattle.histories.proofs.Events.{open_begin_now, open_begin_still, open_end_still, sound_none}
use Rattle.histories.proofs.Verdicts.{ends_of, history_more, next_fresh, next_of, numbered_more, numbered_none, sound_more}
use Rattle.iox2_dynamic.specs.Service as dynamic
use Rattle.history_logs.specs.Seen.{HasAll}

-- one more in both lists
pub both : {X Y : Type 0} (xs : List X) (ys : List Y) (x : X) (y : Y) → length xs ≡ length ys
    → length (xs ++ x ∷ []) ≡ length (ys ++ y ∷ [])
both xs ys x y same =
    omega (arith, length-append xs (x ∷ []), length-append ys (y ∷ []))

pub orderly_new : (line : ServiceLine) → IsOrderly (unseen line)
orderly_new line = record {
  all = record { whole = refl; given = refl; begins = refl; event_lines = refl };
  history = λ index event at. absurd (cc);
  counts = begun_none;
  sound = sound_none;
  numbered = numbered_none;
}

-- what it is before its first call, and what its commands are, does not count
orderly_same : (s : Service) (start : dynamic.Service) (commands : List ℕ) → IsOrderly s
    → IsOrderly (record s { start = start; commands = commands })
orderly_same s start commands o = record {
  all = record {
    whole = o.all.whole;
    given = o.all.given;
    begins = o.all.begins;
    event_lines = o.all.event_lines;
  };
  history = o.history;
  counts = o.counts;
  sound = o.sound;
  numbered = o.numbered;
}

pub orderly_started : (s : Service) (start : dynamic.Service) → IsOrderly s
    → IsOrderly (started s start)
orderly_started s start o = orderly_same s start s.commands o

pub length_changed : (f : Judged → Judged) (calls : List Judged) (number : ℕ)
    → length (changed f calls number) ≡ length calls
length_changed f [] number = refl
length_changed f (c ∷ calls) zero = refl
length_changed f (c ∷ calls) (suc number) = ap suc (length_changed f calls number)

pub length_shown : (calls : List Judged) (start : Option ℕ) (r : SeenReply)
    → length (calls_shown calls start r) ≡ length calls
length_shown calls None r = refl
length_shown calls (Some start) r = length_changed (λ c. shown c r) calls start

pub length_answered : (calls : List Judged) (number : ℕ) (r : SeenReply)
    → length (calls_answered calls number r) ≡ length calls
length_answered calls number r =
    length_changed (λ c. judged_answered c r) (calls_shown calls (start_of calls number) r) number
    ∙ length_shown calls (start_of calls number) r

-- the next call has not begun
fresh : (s : Service) → IsOrderly s → begins (length s.calls) s.events ≡ 0
fresh s o = next_fresh s.events (Begin (length s.calls)) o.numbered
    (next_of s.events (Begin (length s.calls)) (sym o.counts)) (length s.calls) refl

pub not_open : (s : Service) → IsOrderly s → ¬ (IsOpen s.events (length s.calls))
not_open s o live = absurd (omega (arith, live.0, fresh s o))

-- an event that may follow comes next
orderly_event : (s t : Service) (e : Event) → IsOrderly s → MayFollow s.events e
    → t.events ≡ s.events ++ e ∷ [] → HasAll t → begun (s.events ++ e ∷ []) ≡ length t.calls
    → IsOrderly t
orderly_event s t e o may is all counts =
    let next = next_of s.events e may in
    record {
      all = all;
      history = rw is (history_more s.events e o.history may);
      counts = rw is counts;
      sound = rw is (sound_more s.events e o.sound (next_fresh s.events e o.numbered next)
          (ends_of s.events e may));
      numbered = rw is (numbered_more s.events e o.numbered next);
    }

pub orderly_part : (s : Service) (c : Judged) (k : ℕ) → IsOrderly s
    → IsOrderly (with_part s c k)
orderly_part s c k o =
    let n = length s.calls in
    orderly_event s (with_part s c k) (Begin n) o (sym o.counts) refl
    (record {
      whole = o.all.whole;
      given = both s.given s.calls None c o.all.given;
      begins = both s.begins s.calls k c o.all.begins;
      event_lines = both s.event_lines s.events k (Begin n) o.all.event_lines;
    })
    (omega (
      arith,
      o.counts,
      counts_begin (begun s.events) n s.events refl,
      length-append s.calls (c ∷ []),
    ))

pub orderly_begin : (s : Service) (c : Judged) (k : ℕ) → IsOrderly s
    → IsOrderly (with_begin s c k)
orderly_begin s c k o =
    orderly_same (with_part s c k) s.start (s.commands ++ length s.calls ∷ [])
    (orderly_part s c k o)

pub orderly_over : (s : Service) (number k : ℕ) → IsOrderly s → IsOpen s.events number
    → IsOrderly (with_over s number k)
orderly_over s number k o live =
    orderly_event s (with_over s number k) (End number) o live refl
    (record {
      whole = o.all.whole;
      given = o.all.given;
      begins = o.all.begins;
      event_lines = both s.event_lines s.events k (End number) o.all.event_lines;
    })
    (sym (counts_end (begun s.events) number s.events refl) ∙ o.counts)

pub orderly_end : (s : Service) (number : ℕ) (r : SeenReply) (k : ℕ) → IsOrderly s
    → IsOpen s.events number → IsOrderly (with_end s number r k)
orderly_end s number r k o live =
    let answers = sym (length_answered s.calls number r) in
    orderly_event s (with_end s number r k) (End number) o live refl
    (record {
      whole = o.all.whole;
      given = length-set s.given number _ ∙ (o.all.given ∙ answers);
      begins = o.all.begins ∙ answers;
      event_lines = both s.event_lines s.events k (End number) o.all.event_lines;
    })
    (sym (counts_end (begun s.events) number s.events refl) ∙ (o.counts ∙ answers))

pub orderly_crash : (s : Service) (number k : ℕ) → IsOrderly s → IsOpen s.events number
    → IsOrderly (with_crash s number k)
orderly_crash s number k o live =
    orderly_event s (with_crash s number k) (Crash number) o live refl
    (record {
      whole = o.all.whole;
      given = o.all.given;
      begins = o.all.begins;
      event_lines = both s.event_lines s.events k (Crash number) o.all.event_lines;
    })
    (sym (counts_crash (begun s.events) number s.events refl) ∙ o.counts)

-- which calls are open then
pub open_new : (s : Service) (c : Judged) (k : ℕ) → IsOrderly s
    → IsOpen (with_begin s c k).events (length s.calls)
open_new s c k o = open_begin_now s.events (length s.calls) o.sound (fresh s o)

pub open_begun : (s : Service) (c : Judged) (k x : ℕ) → IsOpen s.events x
    → IsOpen (with_begin s c k).events x
open_begun s c k x live = open_begin_still s.events (length s.calls) x live

pub open_ended : (s : Service) (number : ℕ) (r : SeenReply) (k x : ℕ) → IsOpen s.events x
    → x ≢ number → IsOpen (with_end s number r k).events x
open_ended s number r k x live ne =
    open_end_still s.events (End number) number x (inl refl) live ne

pub open_crashed : (s : Service) (number k x : ℕ) → IsOpen s.events x → x ≢ number
    → IsOpen (with_crash s number k).events x
open_crashed s number k x live ne =
    open_end_still s.events (Crash number) number x (inr refl) live ne

-- a call that begins and ends at once
pub orderly_alone : (s : Service) (c : Judged) (r : SeenReply) (k : ℕ) → IsOrderly s
    → IsOrderly (with_end (with_begin s c k) (length s.calls) r k)
orderly_alone s c r k o =
    orderly_end (with_begin s c k) (length s.calls) r k (orderly_begin s c k o) (open_new s c k o)

pub open_alone : (s : Service) (c : Judged) (r : SeenReply) (k x : ℕ) → IsOrderly s
    → IsOpen s.events x → IsOpen (with_end (with_begin s c k) (length s.calls) r k).events x
open_alone s c r k x o live =
    open_ended (with_begin s c k) (length s.calls) r k x (open_begun s c k x live)
    (λ e. not_open s o (subst (IsOpen s.events) e live))

-- what begins makes an orderly service, in which it is open, and keeps what is open
pub record IsBegun (s t : Service) (current : ℕ) : Type 0 where
  pub orderly : IsOrderly t
  pub now : IsOpen t.events current
  pub fresh : ¬ (IsOpen s.events current)
  pub still : (x : ℕ) → IsOpen s.events x → IsOpen t.events x

begun_call : (s : Service) (c : Judged) (k : ℕ) → IsOrderly s
    → IsBegun s (with_begin s c k) (length s.calls)
begun_call s c k o = record {
  orderly = orderly_begin s c k o;
  now = open_new s c k o;
  fresh = not_open s o;
  still = λ x live. open_begun s c k x live;
}

-- no call from the next one on is open
above_fresh : (s : Service) → IsOrderly s → (n : ℕ) → length s.calls ≤ n → ¬ (IsOpen s.events n)
above_fresh s o n h live = absurd (omega (arith, o.numbered n live.0))

begun_look : (s : Service) (p : Part) (k : ℕ) → IsOrderly s
    → IsBegun s (with_look s p k) (length s.calls + 1)
begun_look s p k o =
    let n = length s.calls in
    let one = with_begin s (starting p) k in
    let two = with_over one n k in
    let first = orderly_begin s (starting p) k o in
    let second : IsOrderly two = orderly_over one n k first (open_new s (starting p) k o) in
    let long : length two.calls ≡ n + 1 = length-append s.calls ((starting p) ∷ []) in
    record {
      orderly = orderly_part two (stopping n) k second;
      now = subst (IsOpen (with_look s p k).events) long (open_new two (stopping n) k second);
      fresh = above_fresh s o (n + 1) (omega arith);
      still = λ x live.
          open_begun two (stopping n) k x
          (open_end_still one.events (End n) n x (inl refl) (open_begun s (starting p) k x live)
          (λ e. not_open s o (subst (IsOpen s.events) e live)));
    }

pub begun_of : (s t : Service) (b : Begun) (k current : ℕ) → IsOrderly s → Begins s b k t current
    → IsBegun s t current
begun_of s t (command c) k current o begins =
    rw (begins.1, begins.0) (begun_call s (called s c) k o)
begun_of s t (weak r) k current o (inl looks) = rw (looks.3, looks.2) (begun_look s looks.0 k o)
begun_of s t (weak r) k current o (inr lists) = rw (lists.2, lists.1) (begun_call s _ k o)
