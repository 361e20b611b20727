-- Where replies and commands stand in what was read.
use Rattle.history_logs.proofs.Words.{All, All-nil, All-push, All-set, All-weaker, AllPairs, Answers, Begin, Begins, Begun, Crash, End, Event, Expected, GoesOn, HasCommand, HasEventLines, HasNo, IsKept, IsLine, IsLineAt, IsOpen, IsOrderly, IsReadTo, IsSaidIn, Judged, Line, List, Log, None, Option, Part, Says, SeenReply, Service, ServiceLine, Some, StandsAt, [], all_pairs_push, ap, append-nil, append_assoc, arith, begin, call, called, calls_shown, cases_eq, command, crash, end, get_or, given, inl, inr, judged_answered, length, line_text, refl, reply, same_Some, service, shown, slice_get, start_of, started, starting, starts, stopping, stops, subst, suc, sym, unseen, weak, with_begin, with_crash, with_end, with_look, with_over, with_part, zero, ℕ, ◌++◌, ◌+◌, ◌<◌, ◌∙◌, ◌∷◌, ◌≡◌, ◌≢◌, ◌≤◌}
use Rattle.histories.proofs.Events.{stands_cases, stands_within}
use Rattle.iox2_dynamic.specs.Service as dynamic
use Rattle.service_conformance.specs.Judged.Judged.{call as judged_call}
use Rattle.history_logs.specs.EventLines.{IsAnsweredIn}
use Rattle.history_logs.specs.Reading.{HasRead}
use Rattle.history_logs.specs.Reading.HasRead.{nothing as none_read, note as note_read, line as line_read}
use Rattle.history_logs.proofs.FirstLines.{note_or_reply_more, own_command}
use Rattle.history_logs.proofs.AtIndex.{all_get, get_last, get_left, get_push, get_within}
use Rattle.history_logs.proofs.Kept.{Changes, Moves, kept_read, moves_step}
use Rattle.history_logs.proofs.Kept.Changes.{call_alone, call_begins, call_ends, caller_dies, is_given}
use Rattle.history_logs.proofs.Kept.Moves.{none_changes, one_added, one_changes}
use Rattle.history_logs.proofs.Orderly.{both, open_new}
use Rattle.history_logs.proofs.Shortened.{get_changed, get_unchanged}

-- the call that begins in this line has a command in the text, whatever follows
abbrev HasCommandIn : List ℕ → ℕ → Type 0
HasCommandIn text k = (rest : List ℕ) → HasCommand (text ++ rest) k

-- more of the text is known
command_on : (text more : List ℕ) (k : ℕ) → HasCommandIn text k → HasCommandIn (text ++ more) k
command_on text more k has rest = rw (append_assoc text more rest) (has (more ++ rest))

-- so it is above a line: the events stand in these lines, and replies where their calls end, and
-- each call has its command, whatever follows
pub record HasEventLinesTo (text : List ℕ) (count : ℕ) (s : Service) : Type 0 where
  pub long : length s.event_lines ≡ length s.events
  pub rising : AllPairs (λ (one other : ℕ). one ≤ other) s.event_lines
  pub upto : All (λ p. p ≤ count) s.event_lines
  pub answers : (index number k : ℕ) → StandsAt s.events index (End number)
      → slice_get s.event_lines index ≡ Some k → (rest : List ℕ)
      → IsAnsweredIn (text ++ rest) s number k
  pub begun : All (HasCommandIn text) s.begins

-- where a reply is shown, what is said stays said
said_shown : (bytes : List ℕ) (c : Judged) (r : SeenReply) (k : ℕ) → IsSaidIn bytes c k
    → IsSaidIn bytes (shown c r) k
said_shown bytes (judged_call c) r k said = said
said_shown bytes (starts p ids) r k said = tt
said_shown bytes (stops start seen) r k said = said

-- what stands at a number after it was shown
record StandsShown (calls : List Judged) (number : ℕ) (c : Judged) (r : SeenReply) : Type 0 where
  pub now : Judged
  pub there : slice_get calls number ≡ Some now
  pub says : (bytes : List ℕ) (k : ℕ) → IsSaidIn bytes c k → IsSaidIn bytes now k

stands_shown : (calls : List Judged) (start : Option ℕ) (number : ℕ) (c : Judged) (r : SeenReply)
    → slice_get calls number ≡ Some c → StandsShown (calls_shown calls start r) number c r
stands_shown calls None number c r e =
    record { now = c; there = e; says = λ bytes k said. said }
stands_shown calls (Some start) number c r e =
    elim (cases_eq number start) [
      | inl same ↦ record {
        now = shown c r;
        there = rw (← same, get_changed (λ x. shown x r) calls number, e) refl;
        says = λ bytes k said. said_shown bytes c r k said;
      }
      | inr other ↦ record {
        now = c;
        there = get_unchanged (λ x. shown x r) calls start number other ∙ e;
        says = λ bytes k said. said;
      }
    ]

said_answered : (bytes : List ℕ) (c : Judged) (r : SeenReply) (k : ℕ) (l : Line) (words : List ℕ)
    → Says words r → IsLine l → Answers l words → IsLineAt bytes k (line_text l)
    → IsSaidIn bytes (judged_answered c r) k
said_answered bytes (judged_call c) r k l words says is answer at =
    (words, ap Some says.text, (l, is, answer, at))
said_answered bytes (starts p ids) r k l words says is answer at = tt
said_answered bytes (stops start seen) r k l words says is answer at =
    (words, ap Some says.text, (l, is, answer, at))

pub located_new : (text : List ℕ) (count : ℕ) (line : ServiceLine)
    → HasEventLinesTo text count (unseen line)
located_new text count line = record {
  long = refl;
  rising = λ i j d h lt. absurd (omega arith);
  upto = All-nil (λ p. p ≤ count);
  answers = λ index number k at is rest. absurd (cc);
  begun = All-nil (HasCommandIn text);
}

same_end : (a b : ℕ) → End a ≡ End b → a ≡ b
same_end a b e = cc

module _ (text : List ℕ) (count : ℕ) (s : Service) (p : HasEventLinesTo text count s) where
  -- more lines follow
  pub located_on : (more : List ℕ) (k : ℕ) → count ≤ k → HasEventLinesTo (text ++ more) k s
  located_on more k h = record {
    long = p.long;
    rising = p.rising;
    upto = λ i d lt. omega (arith, p.upto i d lt);
    answers = λ index number line at is rest.
        rw (append_assoc text more rest) (p.answers index number line at is (more ++ rest));
    begun = λ i d lt. command_on text more (get_or s.begins i d) (p.begun i d lt);
  }

  module _ (k : ℕ) (h : count ≤ k) where
    -- one event more, in this line
    located_event : (t : Service) (e : Event) → t.events ≡ s.events ++ e ∷ []
        → t.event_lines ≡ s.event_lines ++ k ∷ []
        → ((index number line : ℕ) → StandsAt s.events index (End number) → (rest : List ℕ)
        → IsAnsweredIn (text ++ rest) s number line → IsAnsweredIn (text ++ rest) t number line)
        → ((number : ℕ) → e ≡ End number → (rest : List ℕ)
        → IsAnsweredIn (text ++ rest) t number k)
        → All (HasCommandIn text) t.begins → HasEventLinesTo text k t
    located_event t e events lines still last begun = record {
      long = ap length lines ∙ (both s.event_lines s.events k e p.long ∙ ap length (sym events));
      rising = rw lines (all_pairs_push (λ (one other : ℕ). one ≤ other) s.event_lines k p.rising
          (λ i d lt. omega (arith, p.upto i d lt)));
      upto = rw lines (All-push (λ p. p ≤ k) s.event_lines k
          (λ i d lt. omega (arith, p.upto i d lt)) (omega arith));
      answers = λ index number line ended is rest.
          let stands = rw lines at is in
          elim (stands_cases s.events e index (End number) (rw events at ended)) [
            | inl before ↦
                let lt : index < length s.event_lines =
                omega (arith, p.long, stands_within s.events index (End number) before) in
                still index number line before rest
                (p.answers index number line before
                (sym (get_left s.event_lines (k ∷ []) index lt) ∙ stands) rest)
            | inr own ↦
                let here =
                same_Some k line
                (sym (get_last s.event_lines k index (own.0 ∙ sym p.long)) ∙ stands) in
                rw (← here) (last number own.1 rest)
          ];
      begun = begun;
    }

    -- a call begins in this line
    located_call : (t : Service) (c : Judged) → t.events ≡ s.events ++ Begin (length s.calls) ∷ []
        → t.event_lines ≡ s.event_lines ++ k ∷ [] → t.calls ≡ s.calls ++ c ∷ []
        → t.begins ≡ s.begins ++ k ∷ [] → HasCommandIn text k → HasEventLinesTo text k t
    located_call t c events lines calls begins has =
        located_event t (Begin (length s.calls)) events lines
        (λ index number line at rest a. (
          a.0,
          ap (λ (l : List Judged). slice_get l number) calls
              ∙ get_push s.calls c number a.0 a.1,
          a.2,
        )) (λ number e. absurd (cc))
        (subst (All (HasCommandIn text)) (sym begins)
        (All-push (HasCommandIn text) s.begins k p.begun has))

    located_part : (c : Judged) → HasCommandIn text k → HasEventLinesTo text k (with_part s c k)
    located_part c has = located_call (with_part s c k) c refl refl refl refl has

    pub located_begin : (c : Judged) → HasCommandIn text k
        → HasEventLinesTo text k (with_begin s c k)
    located_begin c has = located_call (with_begin s c k) c refl refl refl refl has

    -- what starts to look is over
    located_over : (over : ℕ) (part : Part) (ids : Option (List ℕ))
        → slice_get s.calls over ≡ Some (starts part ids)
        → HasEventLinesTo text k (with_over s over k)
    located_over over part ids called =
        located_event (with_over s over k) (End over) refl refl (λ index number line at rest a. a)
        (λ number e rest. (starts part ids, rw (← same_end over number e) called, tt)) p.begun

    -- the caller of a call died
    pub located_crash : (dead : ℕ) → HasEventLinesTo text k (with_crash s dead k)
    located_crash dead =
        located_event (with_crash s dead k) (Crash dead) refl refl
        (λ index number line at rest a. a) (λ number e. absurd (cc)) p.begun

    -- a call that is open was answered in this line
    pub located_end : (ended : ℕ) (r : SeenReply) (c : Judged) (l : Line) (words : List ℕ)
        → IsOpen s.events ended → slice_get s.calls ended ≡ Some c → Says words r → IsLine l
        → Answers l words → ((rest : List ℕ) → IsLineAt (text ++ rest) k (line_text l))
        → HasEventLinesTo text k (with_end s ended r k)
    located_end ended r c l words live called says is_line answer there =
        let shown_calls = calls_shown s.calls (start_of s.calls ended) r in
        let answered = λ (x : Judged). judged_answered x r in
        located_event (with_end s ended r k) (End ended) refl refl
        (λ index number line before rest a.
        let other : number ≢ ended = λ same. live.1 (index, inl (rw (← same) before)) in
        let sh = stands_shown s.calls (start_of s.calls ended) number a.0 r a.1 in (
          sh.now,
          get_unchanged answered shown_calls ended number other ∙ sh.there,
          sh.says (text ++ rest) line a.2,
        ))
        (λ number e rest.
        let sh = stands_shown s.calls (start_of s.calls ended) ended c r called in (
          answered sh.now,
          rw (← same_end ended number e, get_changed answered shown_calls ended, sh.there) refl,
          said_answered (text ++ rest) sh.now r k l words says is_line answer (there rest),
        )) p.begun

-- the lines that follow the text have their numbers after those of the text
abbrev FollowsOn : List ℕ → ℕ → Type 0
FollowsOn text count =
    (rest line : List ℕ) (k : ℕ) → IsLineAt rest (suc k) line
    → IsLineAt (text ++ rest) (count + suc k) line

follows_on : (text : List ℕ) (count : ℕ) (first : List ℕ) → HasNo 10 first → FollowsOn text count
    → FollowsOn (text ++ (first ++ 10 ∷ [])) (count + 1)
follows_on text count first none cut rest line k at =
    let same : count + 1 + suc k ≡ count + suc (suc k) = omega arith in
    rw (same, append_assoc text (first ++ 10 ∷ []) rest)
    (cut ((first ++ 10 ∷ []) ++ rest) line (suc k)
    (first, rest, none, append_assoc first (10 ∷ []) rest, at))

line_there : (text : List ℕ) (count : ℕ) (first : List ℕ) → HasNo 10 first → FollowsOn text count
    → (rest : List ℕ) → IsLineAt ((text ++ (first ++ 10 ∷ [])) ++ rest) (count + 1) first
line_there text count first none cut rest =
    rw (append_assoc text (first ++ 10 ∷ []) rest)
    (cut ((first ++ 10 ∷ []) ++ rest) first zero (rest, none, append_assoc first (10 ∷ []) rest))

module _ (text : List ℕ) (count : ℕ) where
  abbrev Now : Service → Type 0
  Now = HasEventLinesTo text count

  abbrev Next : Service → Type 0
  Next = HasEventLinesTo text (count + 1)

  later : (s : Service) → Now s → Next s
  later s p = rw (← append-nil text) (located_on text count s p [] (count + 1) (omega arith))

  all_later : (ss : List Service) → All Now ss → All Next ss
  all_later ss all = All-weaker Now Next later ss all

  located_started : (s : Service) (start : dynamic.Service) → Next s → Next (started s start)
  located_started s start p = record {
    long = p.long;
    rising = p.rising;
    upto = p.upto;
    answers = p.answers;
    begun = p.begun;
  }

  located_look : (s : Service) (part : Part) → Now s → HasCommandIn text (count + 1)
      → Next (with_look s part (count + 1))
  located_look s part p has =
      let k = count + 1 in
      let n = length s.calls in
      let one = with_begin s (starting part) k in
      let first : Next one = located_begin text count s p k (omega arith) (starting part) has in
      let second : Next (with_over one n k) =
      located_over text k one first k (omega arith) n part None
      (get_last s.calls (starting part) (length s.calls) refl) in
      located_part text k (with_over one n k) second k (omega arith) (stopping n) has

  located_begun : (s t : Service) (b : Begun) (current : ℕ) → Now s
      → HasCommandIn text (count + 1) → Begins s b (count + 1) t current → Next t
  located_begun s t (command c) current p has begins =
      rw begins.0
      (located_begin text count s p (count + 1) (omega arith) (called s c) has)
  located_begun s t (weak r) current p has (inl looks) =
      rw looks.2 (located_look s looks.0 p has)
  located_begun s t (weak r) current p has (inr lists) =
      rw lists.1 (located_begin text count s p (count + 1) (omega arith) _ has)

  located_change : (old : Log) (l : Line) (s t : Service) → IsKept old → IsOrderly s → Now s
      → Changes old (count + 1) s l t → IsLine l
      → ((rest : List ℕ) → IsLineAt (text ++ rest) (count + 1) (line_text l))
      → (old.waits ≢ None → HasCommandIn text count) → Next t
  located_change old l s t kept o p (call_begins number name b u current is) line there waits =
      located_begun s u b current p (λ rest.
      own_command (text ++ rest) (count + 1) (begin number name b) line tt (there rest)) is
  located_change old l s t kept o p (call_alone named words r some says) line there waits =
      let k = count + 1 in
      let c = called s named in
      let has : HasCommandIn text k =
      λ rest. note_or_reply_more (text ++ rest) count (line_text (reply words)) (inr (words, refl))
      (there rest) (waits some rest) in
      let begun : HasEventLinesTo text k (with_begin s c k) =
      located_begin text count s p k (omega arith) c has in
      located_end text k (with_begin s c k) begun k (omega arith) (length s.calls) r c
      (reply words) words (open_new s c k o) (get_last s.calls c _ refl) says tt refl there
  located_change old l s t kept o p (call_ends number name words r live says) line there waits =
      let within : number < length s.calls = omega (arith, o.numbered number (live kept).0) in
      let c = get_within s.calls number within in
      located_end text count s p (count + 1) (omega arith) number r c.0 (end name words) words
      (live kept) c.1 says line refl there
  located_change old l s t kept o p (caller_dies number name live) line there waits =
      located_crash text count s p (count + 1) (omega arith) number
  located_change old l s t kept o p (is_given number what start none) line there waits =
      located_started s start (later s p)

  located_moves : (old : Log) (l : Line) (new : List Service) → IsKept old → All Now old.services
      → Moves old (count + 1) l new → IsLine l
      → ((rest : List ℕ) → IsLineAt (text ++ rest) (count + 1) (line_text l))
      → (old.waits ≢ None → HasCommandIn text count) → All Next new
  located_moves old l new kept all none_changes line there waits = all_later old.services all
  located_moves old l new kept all (one_changes at s t here changes) line there waits =
      All-set Next old.services at t
      (located_change old l s t kept (all_get IsOrderly old.services at s kept.orderly here)
      (all_get Now old.services at s all here) changes line there waits)
      (all_later old.services all)
  located_moves old l new kept all (one_added own start) line there waits =
      All-push Next old.services (started (unseen own) start) (all_later old.services all)
      (located_started (unseen own) start (located_new text (count + 1) own))

  -- where a call alone waits for its reply, its command is above
  waits_step : (old new : Log) (l : Line) → GoesOn old (count + 1) l new → IsLine l
      → ((rest : List ℕ) → IsLineAt (text ++ rest) (count + 1) (line_text l)) → new.waits ≢ None
      → HasCommandIn text (count + 1)
  waits_step old new (service line) g is there some =
      absurd (some (ap (λ (x : Log). x.waits) g.2 ∙ g.0))
  waits_step old new (call number c) g is there some =
      λ rest. own_command (text ++ rest) (count + 1) (call number c) is tt (there rest)
  waits_step old new (reply words) g is there some =
      absurd (some (ap (λ (x : Log). x.waits) g.7))
  waits_step old new (begin number name begun) g is there some = absurd (some g.5.5)
  waits_step old new (end name words) g is there some = absurd (some g.10)
  waits_step old new (crash name) g is there some = absurd (some g.3)
  waits_step old new (given number what) g is there some =
      elim g.5 [
        | inl first ↦ absurd (some (ap (λ (x : Log). x.waits) first.1 ∙ g.3))
        | inr anew ↦ absurd (some (ap (λ (x : Log). x.waits) anew.1 ∙ g.3))
      ]

-- what is kept from line to line
record ReadOn (text : List ℕ) (count : ℕ) (log : Log) : Type 0 where
  cut : FollowsOn text count
  located : All (HasEventLinesTo text count) log.services
  waits : log.waits ≢ None → HasCommandIn text count

read_on : (text : List ℕ) (count : ℕ) (log : Log) → HasRead text count log → ReadOn text count log
read_on text count log (none_read l services callers waits) = record {
  cut = λ rest line k at.
      let same : 0 + suc k ≡ suc k = omega arith in rw same at;
  located = rw services (All-nil (HasEventLinesTo [] 0));
  waits = λ some. absurd (some waits);
}
read_on text count log (note_read before n l read first none is) =
    let r = read_on before n l read in
    record {
      cut = follows_on before n first none r.cut;
      located = All-weaker (HasEventLinesTo before n) (HasEventLinesTo (before ++ (first ++ 10 ∷
          [])) (n + 1))
          (λ s p. located_on before n s p (first ++ 10 ∷ []) (n + 1) (omega arith)) log.services
          r.located;
      waits = λ some rest.
          let more = first ++ 10 ∷ [] in
          note_or_reply_more ((before ++ more) ++ rest) n first (inl is)
          (line_there before n first none r.cut rest)
          (command_on before more n (r.waits some) rest);
    }
read_on text count log (line_read before n old read l is none new g) =
    let r = read_on before n old read in
    let more = line_text l ++ 10 ∷ [] in
    let there = line_there before n (line_text l) none r.cut in
    record {
      cut = follows_on before n (line_text l) none r.cut;
      located = located_moves (before ++ more) n old l log.services (kept_read before n old read)
          (All-weaker (HasEventLinesTo before n) (HasEventLinesTo (before ++ more) n)
          (λ s p. located_on before n s p more n (omega arith)) old.services r.located)
          (moves_step old log (n + 1) l g) is there
          (λ some. command_on before more n (r.waits some));
      waits = waits_step (before ++ more) n old log l g is there;
    }

pub located_of : (bytes : List ℕ) (services : List Service) (bad : Option (ℕ × Expected))
    → IsReadTo bytes services bad → All (HasEventLines bytes) services
located_of bytes services bad r =
    let g = r.good in
    let on = read_on g.text r.count r.log g.read in
    rw (← r.same)
    (All-weaker (HasEventLinesTo g.text r.count) (HasEventLines bytes)
    (λ s p. record {
      rising = p.rising;
      answers = λ index number k at is. rw g.spelled (p.answers index number k at is r.rest);
      begun = All-weaker (HasCommandIn g.text) (HasCommand bytes)
          (λ k has. rw g.spelled (has r.rest)) s.begins p.begun;
    }) r.log.services on.located)
