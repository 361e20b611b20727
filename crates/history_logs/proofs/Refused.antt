-- Lines that may not come next.
use Rattle.history_logs.proofs.Words.{All-nil, CallerState, Crashes, Does, Err, Expected, GoesOn, HasNoNext, IfOk, IfOk-weaker, IsAlike, IsKept, IsLine, IsNamed, IsSane, IsTrue, Line, List, Log, MayBegin, NamedCommand, None, Ok, Option, Result, Says, SeenReply, Service, ServiceLine, Some, Takes, TakesLine, TakesNext, [], begin, call, called, crash, end, false, given, inl, inr, is_note, is_service, line_text, one_way, refl, reply, service, slice_get, slice_set, subst, sym, true, with_alone, ℕ, ◌∙◌, ◌∷◌, ◌≡◌, ◌≢◌, ◌⊎◌}
use Rattle.history_logs.specs.declared.logs.callers.CallerState.TheVariants as caller
use Rattle.history_logs.specs.declared.logs.verdict.Expected.TheVariants as expected
use Rattle.history_logs.specs.Good.{IsBadLine, SaysIn}
use Rattle.history_logs.specs.Logs.{EndsInReturn, IsWrong}
use Rattle.history_logs.specs.Reading.{IsRefused, RefusesBegin, RefusesCrash, RefusesEnd}
use Rattle.history_logs.proofs.Named.{one_named, one_index}

-- what was read, where no call waits any more
pub sane_taken : (log : Log) → IsSane log → IsSane (record log { waits = None })
sane_taken log k = record {
  handles = k.handles;
  opened = k.opened;
  waits = λ at c e. absurd (cc);
}

-- the reply to the call that waits
pub replied : (old new : Log) (at : ℕ) (c : NamedCommand) (s : Service) (r : SeenReply) (k : ℕ)
    (text : List ℕ) → old.waits ≡ Some (at, c) → slice_get old.services at ≡ Some s
    → SaysIn text r → new ≡ record old {
      services = slice_set old.services at (with_alone s (called s c) r k);
      waits = None;
    } → TakesLine old k text None new
replied old new at c s r k text waits there says is =
    (reply says.words, tt, sym says.spelled, (at, c, s, r, waits, there, says.says, is))

-- a line where none waits
same_waits : (old : Log) (w : Option (ℕ × NamedCommand)) → w ≡ None → old.waits ≡ None
    → record old { waits = w } ≡ old
same_waits old w none is = rw (none, ← is) refl

next_line : (old new : Log) (k : ℕ) (text : List ℕ) (found : Option Expected)
    (w : Option (ℕ × NamedCommand)) → w ≡ None → old.waits ≡ None
    → TakesNext (record old { waits = w }) k text found new → TakesLine old k text found new
next_line old new k text None w none is t =
    (t.0, t.1, t.2, subst (λ (x : Log). GoesOn x k t.0 new) (same_waits old w none is) t.3)
next_line old new k text (Some e) w none is t =
    (inr (is, subst (λ (x : Log). IsWrong x text e) (same_waits old w none is) t.0), t.1)

empty_get : {X : Type 0} (xs : List X) (i : ℕ) (x : X) → xs ≡ [] → slice_get xs i ≢ Some x
empty_get [] i x e h = absurd (cc)
empty_get (y ∷ xs) i x e h = absurd (cc)

begins_not : (state : Option CallerState) (e : Expected) → MayBegin state → ¬ (RefusesBegin state e)
begins_not None e may bars = bars
begins_not (Some caller.Idle) e may bars = bars
begins_not (Some caller.Dead) e may bars = elim may [ inl h ↦ absurd (cc) | inr h ↦ absurd (cc) ]
begins_not (Some (caller.Calls at number)) e may bars =
    elim may [ inl h ↦ absurd (cc) | inr h ↦ absurd (cc) ]

ends_not : (words : List ℕ) (state : Option CallerState) (e : Expected) (at number : ℕ)
    (r : SeenReply) → RefusesEnd words state e → state ≡ Some (caller.Calls at number)
    → ¬ (Says words r)
ends_not words (Some (caller.Calls b m)) e at number r bars is says = bars.1 r says
ends_not words _ e at number r bars is says = absurd (cc)

crashes_not : (old new : List Service) (k : ℕ) (state : Option CallerState) (e : Expected)
    → RefusesCrash state e → ¬ (Crashes old k state new)
crashes_not old new k None e bars crashes = crashes
crashes_not old new k (Some caller.Dead) e bars crashes = crashes
crashes_not old new k _ e bars crashes = bars

-- a line that is refused does not go on, and no line of its text does
refused_not : (log : Log) (k : ℕ) (l m : Line) (new : Log) (e : Expected) → IsKept log
    → log.waits ≡ None → IsRefused log l e → IsAlike l m → ¬ (GoesOn log k m new)
refused_not log k (service a) (service b) new e kept none bars same g =
    bars.1 (rw same g.1)
refused_not log k (call a c) (call b d) new e kept none bars same g =
    bars.1 g.0 g.1 (rw same g.3)
refused_not log k (reply v) (reply w) new e kept none bars same g =
    let waits = g.4 in absurd (cc)
refused_not log k (begin a n c) (begin b o d) new e kept none bars same g =
    elim bars [
      | inl h ↦ h.1 g.0 g.1 (rw same.0 g.3)
      | inr h ↦ begins_not (log.callers n) e (rw same.1 g.4) h.1
    ]
refused_not log k (end a v) (end b w) new e kept none bars same g =
    ends_not v (log.callers a) e g.0 g.1 g.3 bars (rw same.0 g.5) (rw same.1 g.7)
refused_not log k (crash a) (crash b) new e kept none bars same g =
    crashes_not log.services new.services k (log.callers a) e bars (rw same g.1)
refused_not log k (given a what) (given b other) new e kept none bars same g =
    let own : IsNamed a log.services g.0 g.1 = rw same.0 g.4 in
    elim bars [
      | inl h ↦ h.1 g.0 g.1 own
      | inr h ↦
          let f = h.1 in
          let is = one_named a log.services g.0 f.0 g.1 f.1 own f.2 in
          let same_at = one_index a log.services g.0 f.0 g.1 f.1 own f.2 in
          elim g.5 [
            | inl first ↦ f.3 g.2 (rw (same.1, ← is) first.0)
            | inr anew ↦ f.4 g.2 (rw (same.1, ← is, ← same_at) anew.0)
          ]
    ]
refused_not _ _ _ _ _ _ kept none bars same g = absurd same

-- below a call that waits only a reply goes on
below_not : (log : Log) (k : ℕ) (text : List ℕ) (l : Line) (new : Log) → log.waits ≢ None
    → ((words : List ℕ) (r : SeenReply) → Says words r → text ≢ line_text (reply words))
    → line_text l ≡ text → ¬ (GoesOn log k l new)
below_not log k text (service line) new some lacks is g = some g.0
below_not log k text (call number c) new some lacks is g = some g.2
below_not log k text (reply words) new some lacks is g = lacks words g.3 g.6 (sym is)
below_not log k text (begin number name c) new some lacks is g = some g.2
below_not log k text (end name words) new some lacks is g = some g.4
below_not log k text (crash name) new some lacks is g = some g.0
below_not log k text (given number what) new some lacks is g = some g.3

-- without a service only that of one goes on
service_not : (log : Log) (k : ℕ) (text : List ℕ) (l : Line) (new : Log) → IsKept log
    → log.waits ≡ None → log.services ≡ []
    → ((line : ServiceLine) → IsLine (service line) → line_text (service line) ≢ text)
    → IsLine l → line_text l ≡ text → ¬ (GoesOn log k l new)
service_not log k text (service line) new kept none empty bars p is g = bars line p is
service_not log k text (call n c) new kept none empty bars p is g =
    empty_get log.services g.0 g.1 empty g.3.there
service_not log k text (reply w) new kept none empty bars p is g =
    let waits = g.4 in absurd (cc)
service_not log k text (begin n a c) new kept none empty bars p is g =
    empty_get log.services g.0 g.1 empty g.3.there
service_not log k text (end a w) new kept none empty bars p is g =
    empty_get log.services g.0 g.2 empty g.6
service_not log k text (crash a) new kept none empty bars p is g =
    rw (kept.none empty a) at g.1
service_not log k text (given n s) new kept none empty bars p is g =
    empty_get log.services g.0 g.1 empty g.4.there

pub bad_not : (log : Log) (k : ℕ) (text : List ℕ) (e : Expected) → IsKept log
    → IsBadLine log text e → HasNoNext log k text
bad_not log k text e kept bad l new p is g =
    elim bad [
      | inl b ↦ below_not log k text l new b.0 b.1 is g
      | inr b ↦ elim b.1 [
        | inl c ↦ service_not log k text l new kept b.0 c.0 c.2 p is g
        | inr (inl c) ↦ c.2 l p is
        | inr (inr c) ↦
            let d = c.1 in
            refused_not log k d.0 l new e kept b.0 d.3 (one_way d.0 l d.1 p (d.2 ∙ sym is)) g
      ]
    ]

-- a line that may not come next
pub bad_line : (old new : Log) (k : ℕ) (text : List ℕ) (e : Expected)
    → (¬ (IsTrue (is_note text))) → (¬ (EndsInReturn text))
    → TakesLine old k text (Some e) new → Takes old k text (Some e) new
bad_line old new k text e note bars t kept = (
  note,
  bad_not old k text e kept t.0,
  elim t.0 [
    | inl b ↦ inr (inl (bars, b.0, b.1, b.2))
    | inr b ↦ inr (inr (bars, b.0, b.1))
  ],
  t.1,
)

pub bad_return : (old new : Log) (k : ℕ) (text : List ℕ) (e : Expected)
    → (¬ (IsTrue (is_note text))) → EndsInReturn text
    → TakesLine old k text (Some e) new → Takes old k text (Some expected.NoCarriageReturn) new
bad_return old new k text e note ends t kept =
    (note, bad_not old k text e kept t.0, inl (ends, refl), t.1)

cases_empty : {X : Type 0} (xs : List X) → (xs ≡ []) ⊎ (xs ≢ [])
cases_empty [] = inl refl
cases_empty (x ∷ xs) = inr (λ e. absurd (cc))

first_new : (log : Log) (l : Line) (e : Expected) → log.services ≡ [] → is_service l ≡ true
    → ¬ (IsRefused log l e)
first_new log (service line) e empty is bars =
    bars.1 (rw empty (All-nil (λ (s : Service). s.line.number ≢ line.number)))
first_new log _ e empty is bars = absurd (cc)

-- a line of a log, where it is that of a service or one is above
pub taken : (old new : Log) (k : ℕ) (text : List ℕ) (l : Line) (found : Option Expected)
    → IsLine l → text ≡ line_text l → (old.services ≡ [] → is_service l ≡ true)
    → Does old k l found new → TakesNext old k text found new
taken old new k text l None p is first does = (l, p, sym is, does)
taken old new k text l (Some e) p is first does = (
  elim (cases_empty old.services) [
    | inl empty ↦ absurd (first_new old l e empty (first empty) does.0)
    | inr some ↦ inr (inr (some, (l, p, sym is, does.0)))
  ],
  does.1,
)

not_service : (l : Line) (line : ServiceLine) → is_service l ≡ false → ¬ (IsAlike l (service line))
not_service (service a) line bars same = absurd (cc)
not_service _ line bars same = same

-- another line where no service is above
pub wrong_first : (old : Log) (text : List ℕ) (l : Line) → IsLine l → text ≡ line_text l
    → old.services ≡ [] → is_service l ≡ false → IsWrong old text expected.Service
wrong_first old text l p is empty bars =
    inl (
      empty,
      refl,
      λ line q same.
          not_service l line bars (one_way l (service line) p q (sym is ∙ sym same)),
    )

-- no line at all
pub wrong_none : (old : Log) (text : List ℕ) → old.services ≡ []
    → ((l : Line) → IsLine l → line_text l ≢ text) → IsWrong old text expected.Service
wrong_none old text empty bars = inl (empty, refl, λ line p is. bars (service line) p is)

-- the same, where memory may have been refused
pub ok_at : {E : Type 0} (result : Result (Option Expected) E) (old new : Log) (l : Line) (k : ℕ)
    → IfOk result (λ found. (j : ℕ) → Does old j l found new)
    → IfOk result (λ found. Does old k l found new)
ok_at (Ok found) old new l k h = h k
ok_at (Err e) old new l k h = h

pub ok_next : {E : Type 0} (result : Result (Option Expected) E) (old new : Log) (k : ℕ)
    (text : List ℕ) (w : Option (ℕ × NamedCommand)) → w ≡ None → old.waits ≡ None
    → IfOk result (λ found. TakesNext (record old { waits = w }) k text found new)
    → IfOk result (λ found. TakesLine old k text found new)
ok_next result old new k text w none is h =
    IfOk-weaker result _ _ (λ found. next_line old new k text found w none is) h
