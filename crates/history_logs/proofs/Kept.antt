-- What holds of all that is read holds after one line more.
use Rattle.history_logs.proofs.Words.{All-nil, All-push, All-set, All-weaker, AreNumbers, BTreeMap, Begins, Begun, CallerState, Crashes, GoesOn, HasHandles, IsKept, IsOpen, IsOrderly, IsSane, Line, List, Log, NamedCommand, None, Option, Says, SeenReply, Service, ServiceLine, Sets, Some, State, TakesLine, [], ap, arith, begin, bytes_eq-Decides, call, called, calls_in, cases_Bool, cases_eq, command, crash, end, get_or, get_or_from_slice_get, get_set_other, given, inl, inr, length, length-append, length-set, refl, reply, same_Some, service, slice_get, slice_get_read, slice_get_within, slice_set, started, sum_by, sym, take, take-append_seam, take_all, unseen, weak, with_alone, with_crash, with_end, ℕ, ◌++◌, ◌+◌, ◌<◌, ◌∙◌, ◌∷◌, ◌≡◌, ◌≢◌, ◌≤◌, ◌⊎◌}
use Rattle.std.proofs.Common.{bytes_eq}
use Rattle.std.proofs.Math.Seq.{take-length}
use Rattle.std.proofs.lemmas.List.Sums.{sum_by-set, sum_by_push}
use Rattle.iox2_dynamic.specs.Service as dynamic
use Rattle.service_conformance.proofs.Given.{push_some}
use Rattle.history_logs.specs.declared.logs.callers.CallerState.TheVariants as caller
use Rattle.history_logs.specs.Good.{IsOpenOn}
use Rattle.history_logs.specs.Reading.{HasRead}
use Rattle.history_logs.specs.Reading.HasRead.{line as line_read, note as note_read, nothing as none_read}
use Rattle.history_logs.proofs.AtIndex.{all_get, get_push, get_same}
use Rattle.history_logs.proofs.Named.{numbers_set, same_numbers}
use Rattle.history_logs.proofs.Orderly.{begun_of, open_alone, open_crashed, open_ended, orderly_alone, orderly_crash, orderly_end, orderly_new, orderly_started}

pub cases_name : (a b : List ℕ) → (a ≡ b) ⊎ (a ≢ b)
cases_name a b =
    elim (cases_Bool (bytes_eq a b)) [
      | inl e ↦ inl ((bytes_eq-Decides a b).0 e)
      | inr ne ↦ inr (λ same. let e = (bytes_eq-Decides a b).1 same in absurd (cc))
    ]

-- a call that is open on the service at an index
pub open_at : (ss : List Service) (at number : ℕ) (s : Service) → slice_get ss at ≡ Some s
    → IsOpenOn ss at number → IsOpen s.events number
open_at ss at number s there o = rw (same_Some o.0 s (sym o.1 ∙ there)) at o.2

-- where what was open on a service stays open, it does on all
opened_set : (ss : List Service) (at : ℕ) (s t : Service) → slice_get ss at ≡ Some s → (b m : ℕ)
    → ((b ≡ at) → IsOpen s.events m → IsOpen t.events m) → IsOpenOn ss b m
    → IsOpenOn (slice_set ss at t) b m
opened_set ss at s t there b m keeps o =
    elim (cases_eq b at) [
      | inl e ↦
          let same = same_Some o.0 s (sym o.1 ∙ rw e there) in
          (t, rw e (get_same ss at t s there), keeps e (rw same at o.2))
      | inr ne ↦ (o.0, get_set_other ss at b t ne ∙ o.1, o.2)
    ]

set_some : (ss : List Service) (at : ℕ) (s t : Service) → slice_get ss at ≡ Some s
    → slice_set ss at t ≢ []
set_some ss at s t there e =
    omega (arith, slice_get_within ss at s there, length-set ss at t, ap length e)

none_waits : (log : Log) → log.waits ≡ None → (at : ℕ) (c : NamedCommand)
    → log.waits ≡ Some (at, c) → at < length log.services
none_waits log none at c e = absurd (cc)

-- one service more
kept_push : (old : Log) (t : Service) → IsKept old → old.waits ≡ None → IsOrderly t
    → IsKept (record old { services = old.services ++ t ∷ [] })
kept_push old t k none orderly = record {
  orderly = All-push IsOrderly old.services t k.orderly orderly;
  opened = λ name at number e.
      let o = k.opened name at number e in
      (o.0, get_push old.services t at o.0 o.1, o.2);
  apart = k.apart;
  waits = λ at c e. absurd (cc);
  none = λ e name. absurd (push_some old.services t e);
}

kept_call : (old : Log) (at : ℕ) (s : Service) (c : NamedCommand) → IsKept old
    → slice_get old.services at ≡ Some s → IsKept (record old { waits = Some (at, c) })
kept_call old at s c k there = record {
  orderly = k.orderly;
  opened = k.opened;
  apart = k.apart;
  waits = λ b d e.
      let same : at ≡ b = ap (λ (p : ℕ × NamedCommand). p.0) (same_Some (at, c) (b, d) e) in
      omega (arith, slice_get_within old.services at s there);
  none = k.none;
}

kept_alone : (old : Log) (at : ℕ) (s t : Service) → IsKept old
    → slice_get old.services at ≡ Some s → IsOrderly t
    → ((m : ℕ) → IsOpen s.events m → IsOpen t.events m)
    → IsKept (record old { services = slice_set old.services at t; waits = None })
kept_alone old at s t k there orderly keeps = record {
  orderly = All-set IsOrderly old.services at t orderly k.orderly;
  opened = λ name b m e.
      opened_set old.services at s t there b m (λ _ o. keeps m o) (k.opened name b m e);
  apart = k.apart;
  waits = λ b c e. absurd (cc);
  none = λ e name. absurd (set_some old.services at s t there e);
}

-- the caller does something else, and its service changes
module _ (old new : Log) (at : ℕ) (s t : Service) (name : List ℕ) (st : CallerState)
    (k : IsKept old) (there : slice_get old.services at ≡ Some s) (orderly : IsOrderly t)
    (services : new.services ≡ slice_set old.services at t)
    (sets : Sets old.callers name st new.callers) (waits : new.waits ≡ None)
    (own : (b m : ℕ) → st ≡ caller.Calls b m
    → (b ≡ at) × IsOpen t.events m × (¬ (IsOpen s.events m)))
    (keeps : (other : List ℕ) (m : ℕ) → other ≢ name
    → old.callers other ≡ Some (caller.Calls at m) → IsOpen s.events m → IsOpen t.events m)
  where
    does : (one : List ℕ) (b m : ℕ) → one ≡ name → new.callers one ≡ Some (caller.Calls b m)
        → st ≡ caller.Calls b m
    does one b m same e =
        same_Some st (caller.Calls b m) (sym sets.own ∙ (ap new.callers (sym same) ∙ e))

    did : (one : List ℕ) (b m : ℕ) → one ≢ name → new.callers one ≡ Some (caller.Calls b m)
        → old.callers one ≡ Some (caller.Calls b m)
    did one b m ne e = sym (sets.others one ne) ∙ e

    -- the call that it opens was open for no other caller
    clash : (one other : List ℕ) (b m : ℕ) → one ≡ name → other ≢ name
        → new.callers one ≡ Some (caller.Calls b m) → new.callers other ≡ Some (caller.Calls b m)
        → ⊥
    clash one other b m same ne e f =
        let o = own b m (does one b m same e) in
        let was = k.opened other b m (did other b m ne f) in
        let is = same_Some was.0 s (sym was.1 ∙ rw o.0 there) in
        o.2 (rw is at was.2)

    kept_sets : IsKept new
    kept_sets = record {
      orderly = rw services (All-set IsOrderly old.services at t orderly k.orderly);
      opened = λ one b m e. rw services (elim (cases_name one name) [
        | inl same ↦
            let o = own b m (does one b m same e) in
            (t, rw o.0 (get_same old.services at t s there), o.1)
        | inr ne ↦
            let was = did one b m ne e in
            opened_set old.services at s t there b m (λ eb o. keeps one m ne (rw eb at was) o)
            (k.opened one b m was)
      ]);
      apart = λ one other b m e f. elim (cases_name one name) [
        | inl p ↦ elim (cases_name other name) [
          | inl q ↦ p ∙ sym q
          | inr nq ↦ absurd (clash one other b m p nq e f)
        ]
        | inr np ↦ elim (cases_name other name) [
          | inl q ↦ absurd (clash other one b m q np f e)
          | inr nq ↦ k.apart one other b m (did one b m np e) (did other b m nq f)
        ]
      ];
      waits = none_waits new waits;
      none = λ e one. absurd (set_some old.services at s t there (sym services ∙ e));
    }

-- a caller that had no call open died
kept_idle : (old new : Log) (name : List ℕ) → IsKept old → new.services ≡ old.services
    → Sets old.callers name caller.Dead new.callers → new.waits ≡ None
    → old.callers name ≡ Some caller.Idle → IsKept new
kept_idle old new name k services sets waits was =
    let did : (one : List ℕ) (b m : ℕ) → new.callers one ≡ Some (caller.Calls b m)
    → old.callers one ≡ Some (caller.Calls b m) =
    λ one b m e. elim (cases_name one name) [
      | inl same ↦
          let is = rw same at e in
          let bars = sets.own in
          absurd (cc)
      | inr ne ↦ sym (sets.others one ne) ∙ e
    ] in
    record {
      orderly = rw services k.orderly;
      opened = λ one b m e. rw services (k.opened one b m (did one b m e));
      apart = λ one other b m e f. k.apart one other b m (did one b m e) (did other b m f);
      waits = none_waits new waits;
      none = λ e one.
          let bars = k.none (sym services ∙ e) name in absurd (cc);
    }

-- the crash of a caller
kept_crashes : (old new : Log) (k : ℕ) (name : List ℕ) (state : Option CallerState) → IsKept old
    → old.callers name ≡ state → Crashes old.services k state new.services
    → Sets old.callers name caller.Dead new.callers → new.waits ≡ None → IsKept new
kept_crashes old new k name (Some caller.Idle) kept is crashes sets waits =
    kept_idle old new name kept crashes sets waits is
kept_crashes old new k name (Some (caller.Calls at number)) kept is crashes sets waits =
    let s = crashes.0 in
    let live = open_at old.services at number s crashes.1 (kept.opened name at number is) in
    let orderly = all_get IsOrderly old.services at s kept.orderly crashes.1 in
    kept_sets old new at s (with_crash s number k) name caller.Dead kept crashes.1
    (orderly_crash s number k orderly live) crashes.2 sets waits (λ b m e. absurd (cc))
    (λ other m ne does here. open_crashed s number k m here
    (λ e. ne (kept.apart other name at m does (rw e is))))
kept_crashes old new k name _ kept is crashes sets waits = absurd crashes

pub kept_step : (old new : Log) (k : ℕ) (l : Line) → IsKept old → GoesOn old k l new → IsKept new
kept_step old new k (service line) kept g =
    rw g.2 (kept_push old (unseen line) kept g.0 (orderly_new line))
kept_step old new k (call number c) kept g =
    rw g.4 (kept_call old g.0 g.1 c kept g.3.there)
kept_step old new k (reply words) kept g =
    let s = g.2 in
    let orderly = all_get IsOrderly old.services g.0 s kept.orderly g.5 in
    rw g.7
    (kept_alone old g.0 s (with_alone s (called s g.1) g.3 k) kept g.5
    (orderly_alone s (called s g.1) g.3 k orderly)
    (λ m o. open_alone s (called s g.1) g.3 k m orderly o))
kept_step old new k (begin number name begun) kept g =
    let s = g.1 in
    let t = g.5.0 in
    let current = g.5.1 in
    let orderly = all_get IsOrderly old.services g.0 s kept.orderly g.3.there in
    let is = begun_of s t begun k current orderly g.5.2 in
    kept_sets old new g.0 s t name (caller.Calls g.0 current) kept
    g.3.there is.orderly g.5.3 g.5.4 g.5.5
    (λ b m e.
    let at : b ≡ g.0 = cc in
    let same : m ≡ current = cc in
    (at, rw same is.now, λ o. is.fresh (rw same at o)))
    (λ other m ne does here. is.still m here)
kept_step old new k (end name words) kept g =
    let s = g.2 in
    let number = g.1 in
    let live = open_at old.services g.0 number s g.6 (kept.opened name g.0 number g.5) in
    let orderly = all_get IsOrderly old.services g.0 s kept.orderly g.6 in
    kept_sets old new g.0 s (with_end s number g.3 k) name caller.Idle kept g.6
    (orderly_end s number g.3 k orderly live) g.8 g.9 g.10 (λ b m e. absurd (cc))
    (λ other m ne does here. open_ended s number g.3 k m here
    (λ e. ne (kept.apart other name g.0 m does (rw e g.5))))
kept_step old new k (crash name) kept g =
    kept_crashes old new k name (old.callers name) kept refl g.1 g.2 g.3
kept_step old new k (given number what) kept g =
    let s = g.1 in
    let there = g.4.there in
    let orderly = all_get IsOrderly old.services g.0 s kept.orderly there in
    elim g.5 [
      | inl first ↦
          rw (first.1, g.3) (kept_alone old g.0 s (started s g.2) kept there
          (orderly_started s g.2 orderly) (λ m o. o))
      | inr anew ↦
          rw anew.1 (kept_push old (started (unseen s.line) g.2) kept g.3
          (orderly_started (unseen s.line) g.2 (orderly_new s.line)))
    ]

-- what a line does to a service
pub data Changes (old : Log) (k : ℕ) (s : Service) : Line → Service → Type 0 where
  call_begins : (number : Option ℕ) (name : List ℕ) (b : Begun) (t : Service) (current : ℕ)
      → Begins s b k t current → Changes old k s (begin number name b) t
  call_alone : (c : NamedCommand) (words : List ℕ) (r : SeenReply) → old.waits ≢ None
      → Says words r → Changes old k s (reply words) (with_alone s (called s c) r k)
  call_ends : (number : ℕ) (name words : List ℕ) (r : SeenReply)
      → (IsKept old → IsOpen s.events number) → Says words r
      → Changes old k s (end name words) (with_end s number r k)
  caller_dies : (number : ℕ) (name : List ℕ) → (IsKept old → IsOpen s.events number)
      → Changes old k s (crash name) (with_crash s number k)
  is_given : (number : Option ℕ) (what : State) (start : dynamic.Service) → s.calls ≡ []
      → Changes old k s (given number what) (started s start)

-- what a line does to all services: nothing; or it changes one; or it adds one
pub data Moves (old : Log) (k : ℕ) (l : Line) : List Service → Type 0 where
  none_changes : Moves old k l old.services
  one_changes : (at : ℕ) (s t : Service) → slice_get old.services at ≡ Some s
      → Changes old k s l t → Moves old k l (slice_set old.services at t)
  one_added : (line : ServiceLine) (start : dynamic.Service)
      → Moves old k l (old.services ++ started (unseen line) start ∷ [])

moves_crashes : (old : Log) (new : List Service) (k : ℕ) (name : List ℕ)
    (state : Option CallerState) → old.callers name ≡ state → Crashes old.services k state new
    → Moves old k (crash name) new
moves_crashes old new k name (Some caller.Idle) is does = rw does none_changes
moves_crashes old new k name (Some (caller.Calls at number)) is does =
    rw does.2 (one_changes at does.0 (with_crash does.0 number k) does.1 (caller_dies number name
    (λ kept. open_at old.services at number does.0 does.1 (kept.opened name at number is))))
moves_crashes old new k name _ is does = absurd does

pub moves_step : (old new : Log) (k : ℕ) (l : Line) → GoesOn old k l new
    → Moves old k l new.services
moves_step old new k (service line) g = rw g.2 (one_added line (unseen line).start)
moves_step old new k (call number c) g = rw g.4 none_changes
moves_step old new k (reply words) g =
    rw g.7 (one_changes g.0 g.2 (with_alone g.2 (called g.2 g.1) g.3 k) g.5
    (call_alone g.1 words g.3 (λ none. let e = sym g.4 ∙ none in absurd (cc)) g.6))
moves_step old new k (begin number name b) g =
    rw g.5.3 (one_changes g.0 g.1 g.5.0 g.3.there (call_begins number name b g.5.0 g.5.1 g.5.2))
moves_step old new k (end name words) g =
    rw g.8 (one_changes g.0 g.2 (with_end g.2 g.1 g.3 k) g.6 (call_ends g.1 name words g.3
    (λ kept. open_at old.services g.0 g.1 g.2 g.6 (kept.opened name g.0 g.1 g.5)) g.7))
moves_step old new k (crash name) g =
    moves_crashes old new.services k name (old.callers name) refl g.1
moves_step old new k (given number what) g =
    elim g.5 [
      | inl first ↦
          rw first.1 (one_changes g.0 g.1 (started g.1 g.2) g.4.there
          (is_given number what g.2 first.0.0))
      | inr anew ↦ rw anew.1 (one_added g.1.line g.2)
    ]

-- how many commands were read on the service
abbrev calls_of : Service → ℕ
calls_of s = length s.commands

-- a service keeps its line, and has at most one command more
module _ (old : Log) (k : ℕ) (s : Service) where
  one_more : calls_of s + 1 ≡ length (s.commands ++ length s.calls ∷ [])
  one_more = omega (arith, length-append s.commands (length s.calls ∷ []))

  line_stays : (l : Line) (t : Service) → Changes old k s l t
      → (t.line ≡ s.line) × (calls_of t ≤ calls_of s + 1)
  line_stays l t (call_begins number name (command c) u current is) =
      rw is.0 (refl, omega (arith, one_more))
  line_stays l t (call_begins number name (weak r) u current (inl is)) =
      rw is.2 (refl, omega (arith, one_more))
  line_stays l t (call_begins number name (weak r) u current (inr is)) =
      rw is.1 (refl, omega (arith, one_more))
  line_stays l t (call_alone c words r some says) = (refl, omega (arith, one_more))
  line_stays l t (call_ends number name words r live says) = (refl, omega arith)
  line_stays l t (caller_dies number name live) = (refl, omega arith)
  line_stays l t (is_given number what start none) = (refl, omega arith)

-- how many commands were read then
sum_moves : (old : Log) (k : ℕ) (l : Line) (new : List Service) → Moves old k l new
    → sum_by calls_of new ≤ sum_by calls_of old.services + 1
sum_moves old k l new none_changes = omega arith
sum_moves old k l new (one_changes at s t there changes) =
    let ss = old.services in
    omega (
      arith,
      (line_stays old k s l t changes).1,
      sum_by-set calls_of ss at t s (slice_get_within ss at s there),
      ap calls_of (get_or_from_slice_get ss at s s there),
    )
sum_moves old k l new (one_added line start) =
    omega (arith, sum_by_push calls_of old.services (started (unseen line) start))

longer : (old : Log) (k : ℕ) (l : Line) (new : List Service) → Moves old k l new
    → (length old.services ≤ length new) × (length new ≤ length old.services + 1)
longer old k l new none_changes = (omega arith, omega arith)
longer old k l new (one_changes at s t there changes) =
    let long = length-set old.services at t in (omega arith, omega arith)
longer old k l new (one_added line start) =
    let long = length-append old.services (started (unseen line) start ∷ []) in
    (omega arith, omega arith)

pub longer_step : (old new : Log) (k : ℕ) (l : Line) → GoesOn old k l new
    → length old.services ≤ length new.services
longer_step old new k l g = (longer old k l new.services (moves_step old new k l g)).0

-- the services that were there have their numbers still
numbers_moves : (m : BTreeMap ℕ ℕ) (old : Log) (k : ℕ) (l : Line) (new : List Service)
    → Moves old k l new → AreNumbers m old.services → AreNumbers m (take (length old.services) new)
numbers_moves m old k l new none_changes are = rw (take-length old.services) are
numbers_moves m old k l new (one_changes at s t there changes) are =
    let ss = old.services in
    let long : length (slice_set ss at t) ≡ length ss = length-set ss at t in
    rw (take_all (length ss) (slice_set ss at t) (omega arith))
    (same_numbers m ss (slice_set ss at t) (numbers_set ss at s t there
    (line_stays old k s l t changes).0) are)
numbers_moves m old k l new (one_added line start) are =
    rw (take-append_seam old.services (started (unseen line) start ∷ [])) are

pub numbers_line : (m : BTreeMap ℕ ℕ) (old new : Log) (k : ℕ) (text : List ℕ)
    → TakesLine old k text None new → AreNumbers m old.services
    → (length old.services ≤ length new.services) × (length new.services ≤ length old.services + 1)
    × AreNumbers m (take (length old.services) new.services)
numbers_line m old new k text t are =
    let moves = moves_step old new k t.0 t.3 in
    let long = longer old k t.0 new.services moves in
    (long.0, long.1, numbers_moves m old k t.0 new.services moves are)

pub few_step : (old new : Log) (k : ℕ) (l : Line) → GoesOn old k l new
    → calls_in new ≤ calls_in old + 1
few_step old new k l g = sum_moves old k l new.services (moves_step old new k l g)

-- nothing was read yet
pub kept_new : (log : Log) → log.services ≡ [] → ((name : List ℕ) → log.callers name ≡ None)
    → log.waits ≡ None → IsKept log
kept_new log services callers waits = record {
  orderly = rw services (All-nil IsOrderly);
  opened = λ name at number e. let bars = callers name in absurd (cc);
  apart = λ one other at number e f. let bars = callers one in absurd (cc);
  waits = none_waits log waits;
  none = λ e name. callers name;
}

-- what holds of all that was read of the first lines of a log
pub kept_read : (text : List ℕ) (count : ℕ) (log : Log) → HasRead text count log → IsKept log
kept_read text count log (none_read empty services callers waits) =
    kept_new log services callers waits
kept_read text count log (note_read above number old read first none is) =
    kept_read above number old read
kept_read text count log (line_read above number old read l is none new goes) =
    kept_step old new (number + 1) l (kept_read above number old read) goes

pub handles_of : (s : Service) → IsOrderly s → HasHandles s
handles_of s o = record {
  given = o.all.given;
  first = omega arith;
}

-- a caller has this call open on this service
pub opened_at : (log : Log) (name : List ℕ) (state : Option CallerState) (at number : ℕ)
    (d : Service) → IsSane log → state ≡ log.callers name → state ≡ Some (caller.Calls at number)
    → d ≡ get_or log.services at d
    → (log.callers name ≡ Some (caller.Calls at number)) × (slice_get log.services at ≡ Some d)
opened_at log name state at number d sane is calls own =
    let does = sym is ∙ calls in
    let found = sane.opened name at number does in (
      does,
      slice_get_read log.services (length log.services) at d refl
          (slice_get_within log.services at found.0 found.1) own,
    )

-- what holds of all that is read is what the parts need
pub sane_of : (log : Log) → IsKept log → IsSane log
sane_of log k = record {
  handles = All-weaker IsOrderly HasHandles handles_of log.services k.orderly;
  opened = λ name at number e.
      let o = k.opened name at number e in
      let orderly = all_get IsOrderly log.services at o.0 k.orderly o.1 in (
        o.0,
        o.1,
        omega (arith, orderly.numbered number o.2.0),
        record {
          call = omega arith;
          start = λ start is. omega arith;
        },
      );
  waits = k.waits;
}
