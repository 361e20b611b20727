-- The lines of a text by their numbers: the first ones, and the commands of the calls that begin in
-- them. And the first line down to which a reply is refused.
use Rattle.history_logs.proofs.Words.{All-head, All-nil, All-tail, Answers, Bool, HasCommand, HasNo, IsAlike, IsCommandOf, IsLine, IsLineAt, IsTrue, Line, List, Log, None, NoneRefused, Refusal, Service, [], ap, append-nil, append_assoc, arith, before_one, begin, call, cases_lt, end, false, inl, inr, length, line_text, one_way, refl, reply, subst, suc, sym, take, zero, ℕ, ◌++◌, ◌+◌, ◌-◌, ◌<◌, ◌↔◌, ◌∙◌, ◌∷◌, ◌≡◌, ◌≢◌, ◌≤◌}
use Rattle.std.proofs.lemmas.Bool.{ne_eqb}
use Rattle.std.proofs.Math.Seq.{take-append_seam}
use Rattle.std.proofs.lemmas.List.{append_cancel_left, length-append}
use Rattle.line_streams.specs.Numerals.{cons_same}
use Rattle.line_streams.proofs.Indices.{has_one}
use Rattle.std.specs.Borrow.{Bor}
use Rattle.log_lines.proofs.OneReading.{notes_are_none}
use Rattle.history_logs.specs.Logs.{IsFirstRefused, IsRefusal, RefusesIn, RefusesNoneIn, first_lines}
use Rattle.history_logs.specs.Reading.HasRead.{nothing}
use Rattle.history_logs.specs.EventLines.{IsCommand, IsNoteOrReply}

-- another byte than a newline
abbrev IsOther : ℕ → Type 0
IsOther b = b ≢ 10

-- a line comes first
pub lines_line : (k : ℕ) (text after : List ℕ) → HasNo 10 text
    → first_lines (suc k) (text ++ 10 ∷ after) ≡ text ++ 10 ∷ first_lines k after
unfolding first_lines
lines_line k [] after none = refl
lines_line k (b ∷ text) after none =
    let other = ne_eqb b 10 (All-head IsOther b text none) in
    rw other (ap (λ l. b ∷ l) (lines_line k text after (All-tail IsOther b text none)))

-- no newline is there
lines_rest : (k : ℕ) (rest : List ℕ) → HasNo 10 rest → first_lines (suc k) rest ≡ rest
unfolding first_lines
lines_rest k [] none = refl
lines_rest k (b ∷ rest) none =
    let other = ne_eqb b 10 (All-head IsOther b rest none) in
    rw other (ap (λ l. b ∷ l) (lines_rest k rest (All-tail IsOther b rest none)))

-- no text has more lines than bytes
pub lines_all : (k : ℕ) (bytes : List ℕ) → length bytes ≤ k → first_lines k bytes ≡ bytes
unfolding first_lines
lines_all zero [] few = refl
lines_all zero (b ∷ bytes) few = absurd (omega arith)
lines_all (suc k) [] few = refl
lines_all (suc k) (b ∷ bytes) few =
    let less : length bytes ≤ k = omega arith in
    let more : length bytes ≤ suc k = omega arith in
    let one = lines_all k bytes less in
    let other = lines_all (suc k) bytes more in
    grind arith

-- a line between what is above it and what follows
pub behind : (x first after rest : List ℕ)
    → (x ++ (first ++ 10 ∷ after)) ++ rest ≡ x ++ (first ++ 10 ∷ (after ++ rest))
behind x first after rest =
    append_assoc x (first ++ 10 ∷ after) rest
    ∙ ap (λ (l : List ℕ). x ++ l) (append_assoc first (10 ∷ after) rest)

-- so many lines come first, and so many of the rest
abbrev pub StandFirst : List ℕ → ℕ → Type 0
StandFirst text count =
    (k : ℕ) (rest : List ℕ) → first_lines (count + k) (text ++ rest) ≡ text ++ first_lines k rest

pub first_none : StandFirst [] 0
first_none k rest = let same : 0 + k ≡ k = omega arith in rw same refl

pub first_more : (text : List ℕ) (count : ℕ) (own : List ℕ) → HasNo 10 own → StandFirst text count
    → StandFirst (text ++ (own ++ 10 ∷ [])) (count + 1)
first_more text count own none first k rest =
    let next : count + 1 + k ≡ count + suc k = omega arith in
    ap (first_lines (count + 1 + k)) (behind text own [] rest)
    ∙ ap (λ i. first_lines i (text ++ (own ++ 10 ∷ rest))) next
    ∙ first (suc k) (own ++ 10 ∷ rest) ∙ ap (λ (l : List ℕ). text ++ l) (lines_line k own rest none)
    ∙ sym (behind text own [] (first_lines k rest))

-- so many lines stand in front of the rest
pub record StandBefore (bytes : List ℕ) (count : ℕ) (rest : List ℕ) : Type 0 where
  pub front : List ℕ
  pub split : bytes ≡ front ++ rest
  pub first : StandFirst front count

pub before_none : (bytes : List ℕ) → StandBefore bytes 0 bytes
before_none bytes = record { front = []; split = refl; first = first_none }

pub before_more : (bytes : List ℕ) (count : ℕ) (rest text after : List ℕ) → HasNo 10 text
    → rest ≡ text ++ 10 ∷ after → StandBefore bytes count rest → StandBefore bytes (count + 1) after
before_more bytes count rest text after none is b = record {
  front = b.front ++ (text ++ 10 ∷ []);
  split = b.split ∙ (ap (λ l. b.front ++ l) is ∙ sym (behind b.front text [] after));
  first = first_more b.front count text none b.first;
}

pub no_lines : (bytes : List ℕ) → first_lines 0 bytes ≡ []
unfolding first_lines
no_lines bytes = refl

-- nothing follows, where there are fewer
pub before_bad : (bytes : List ℕ) (count all : ℕ) (rest : List ℕ) → HasNo 10 rest → count < all
    → StandBefore bytes count rest → bytes ≡ first_lines all bytes ++ []
before_bad bytes count all rest none h b =
    let more : count + suc (all - count - 1) ≡ all = omega arith in
    sym (append-nil (first_lines all bytes) ∙ ap (first_lines all) b.split
    ∙ rw more at (b.first (suc (all - count - 1)) rest)
    ∙ ap (λ l. b.front ++ l) (lines_rest _ rest none) ∙ sym b.split)

pub before_end : (bytes : List ℕ) (count all : ℕ) (rest : List ℕ) → count ≤ all → all ≤ count
    → StandBefore bytes count rest → bytes ≡ first_lines all bytes ++ rest
before_end bytes count all rest one other b =
    let same : count + 0 ≡ all = omega arith in
    let first : first_lines all bytes ≡ b.front =
    ap (first_lines all) b.split ∙ rw same at (b.first 0 rest)
    ∙ ap (λ l. b.front ++ l) (no_lines rest) ∙ append-nil b.front in
    rw first b.split

pub lines_front : (bytes front rest : List ℕ) → bytes ≡ front ++ rest
    → take (length bytes - length rest) bytes ≡ front
lines_front bytes front rest is =
    let long : length bytes - length rest ≡ length front =
    omega (arith, ap length is, length-append front rest) in
    rw long (ap (take (length front)) is ∙ take-append_seam front rest)

-- the lines behind the first ones are those of what follows them
line_behind : (count d : ℕ) (bytes rest line : List ℕ)
    → bytes ≡ first_lines count bytes ++ rest → IsLineAt bytes (suc (d + count)) line
    → IsLineAt rest (suc d) line
unfolding first_lines
line_behind zero d bytes rest line is at =
    let none : suc (d + 0) ≡ suc d = omega arith in
    subst (λ (l : List ℕ). IsLineAt l (suc d) line) is (subst (λ n. IsLineAt bytes n line) none at)
line_behind (suc k) d bytes rest line is at =
    let next : suc (d + suc k) ≡ suc (suc (d + k)) = omega arith in
    let (first, after, none, split, below) = subst (λ n. IsLineAt bytes n line) next at in
    let lines : first_lines (suc k) bytes ≡ first ++ 10 ∷ first_lines k after =
    ap (first_lines (suc k)) split ∙ lines_line k first after none in
    let whole : first ++ 10 ∷ after ≡ first ++ 10 ∷ (first_lines k after ++ rest) =
    sym split ∙ (is ∙ (ap (λ (l : List ℕ). l ++ rest) lines
    ∙ append_assoc first (10 ∷ first_lines k after) rest)) in
    line_behind k d after rest line (cons_same (append_cancel_left first _ _ whole)).1 below

pub line_at_rest : (bytes : List ℕ) (count d k : ℕ) (rest line : List ℕ)
    → bytes ≡ first_lines count bytes ++ rest → k ≡ d + count + 1 → IsLineAt bytes k line
    → IsLineAt rest (suc d) line
line_at_rest bytes count d k rest line is e at =
    let same : k ≡ suc (d + count) = omega arith in
    line_behind count d bytes rest line is (subst (λ n. IsLineAt bytes n line) same at)

pub line_left : (bytes : List ℕ) (count d k : ℕ) (rest line : List ℕ)
    → StandBefore bytes count rest → k ≡ d + count + 1 → IsLineAt bytes k line
    → IsLineAt rest (suc d) line
line_left bytes count d k rest line b =
    line_at_rest bytes count d k rest line
    (before_end bytes count count rest (omega arith) (omega arith) b)

-- the first line
pub line_first : (bytes text after line : List ℕ) → HasNo 10 text → bytes ≡ text ++ 10 ∷ after
    → IsLineAt bytes (suc zero) line → line ≡ text
line_first bytes text after line none is at =
    let same : (line ≡ text) × (at.0 ≡ after) =
    (before_one 10).same (line, at.0) (text, after) at.1 none (sym at.2 ∙ is) in
    same.0

-- bytes without a newline have no line
pub no_line : (bytes : List ℕ) (k : ℕ) (line : List ℕ) → HasNo 10 bytes → IsLineAt bytes k line → ⊥
no_line bytes zero line none at = at
no_line bytes (suc zero) line none at =
    has_one 10 line at.0 (subst (HasNo 10) at.2 none)
no_line bytes (suc (suc k)) line none at =
    has_one 10 at.0 at.1 (subst (HasNo 10) at.3 none)

pub same_answer : (l line : Line) (words : List ℕ) → IsAlike l line → Answers line words
    → Answers l words
same_answer (reply v) (reply w) words same a = same ∙ a
same_answer (end n v) (end m w) words same a = same.1 ∙ a
same_answer _ (reply w) words same a = absurd same
same_answer _ (end m w) words same a = absurd same
same_answer _ _ words same a = absurd a

-- what the line answers that was read from the text
pub answer_read : (text : List ℕ) (l line : Line) (words : List ℕ) → IsLine l
    → text ≡ line_text l → IsLine line → Answers line words → line_text line ≡ text
    → Answers l words
answer_read text l line words is spelled its a same =
    same_answer l line words (one_way l line is its (sym spelled ∙ sym same)) a

-- the words of the line that was read
pub words_said : (text : List ℕ) (l : Line) (w items : List ℕ) → IsLine l × (text ≡ line_text l)
    → ((words : List ℕ) → Answers l words → w ≡ words) → items ≡ w
    → (seen : Line) (words : List ℕ) → IsLine seen → Answers seen words
    → line_text seen ≡ text → items ≡ words
words_said text l w items read says its seen words is a same =
    its ∙ says words (answer_read text l seen words read.0 read.1 is a same)

-- a call that begins in the line of its command
pub own_command : (bytes : List ℕ) (k : ℕ) (l : Line) → IsLine l → IsCommand l
    → IsLineAt bytes k (line_text l) → HasCommand bytes k
own_command bytes k l is command there = (
  k,
  line_text l,
  record {
    line = l;
    is = is;
    command = command;
    spelled = refl;
    there = there;
    upto = omega arith;
    below = λ later above upto. absurd (omega arith);
  },
)

-- a note or a reply to a call alone follows
pub note_or_reply_more : (bytes : List ℕ) (k : ℕ) (text : List ℕ) → IsNoteOrReply text
    → IsLineAt bytes (k + 1) text → HasCommand bytes k → HasCommand bytes (k + 1)
note_or_reply_more bytes k text is there h = (
  h.0,
  h.1,
  record {
    line = h.2.line;
    is = h.2.is;
    command = h.2.command;
    spelled = h.2.spelled;
    there = h.2.there;
    upto = omega (arith, h.2.upto);
    below = λ later above upto.
        elim (cases_lt k later) [
          | inl last ↦
              let same : later ≡ k + 1 = omega arith in (text, is, rw same there)
          | inr before ↦ h.2.below later above before
        ];
  },
)

-- a command is no note and no reply
no_note_or_reply : (l : Line) → IsLine l → IsCommand l → ¬ (IsNoteOrReply (line_text l))
no_note_or_reply l is command (inl note) = notes_are_none l is note
no_note_or_reply (call number c) is command (inr says) =
    one_way (call number c) (reply says.0) is tt says.1
no_note_or_reply (begin number name c) is command (inr says) =
    one_way (begin number name c) (reply says.0) is tt says.1
no_note_or_reply _ is command (inr says) = absurd command

-- the command of what begins in this line of a log has the line and the text that were found
abbrev pub IsFoundIn : List ℕ → ℕ → ℕ × Bor (List ℕ) → Type 0
IsFoundIn log k found =
    (at : ℕ) (text : List ℕ) → IsCommandOf log k at text → (found.0 ≡ at) × (found.1.now ≡ text)

-- the command of what begins in a line, of which it stands above
above : (log : List ℕ) (i k at : ℕ) (own : List ℕ) → IsCommandOf log k at own → at ≤ i → i ≤ k
    → IsCommandOf log i at own
above log i k at own c h within = record {
  line = c.line;
  is = c.is;
  command = c.command;
  spelled = c.spelled;
  there = c.there;
  upto = h;
  below = λ later under upto. c.below later under (omega arith);
}

module _ (log : List ℕ) (i : ℕ) (rest text after : List ℕ) (none : HasNo 10 text)
    (split : rest ≡ text ++ 10 ∷ after) (left : StandBefore log i rest) where
  next_line : (line : List ℕ) → IsLineAt log (i + 1) line → line ≡ text
  next_line line there =
      line_first rest text after line none split
      (line_left log i 0 (i + 1) rest line left (omega arith) there)

  pub note_or_reply_next : (found : ℕ × Bor (List ℕ)) → IsNoteOrReply text → IsFoundIn log i found
      → IsFoundIn log (i + 1) found
  note_or_reply_next found skipped is at own c =
      elim (cases_lt i at) [
        | inl last ↦
            let same : at ≡ i + 1 = omega (arith, c.upto) in
            let spelled = c.spelled ∙ next_line own (rw same at c.there) in
            absurd (no_note_or_reply c.line c.is c.command (rw spelled skipped))
        | inr before ↦ is at own (above log i (i + 1) at own c before (omega arith))
      ]

  pub command_next : (found : ℕ × Bor (List ℕ)) → (¬ (IsNoteOrReply text)) → found.0 ≡ i + 1
      → found.1.now ≡ text → IsFoundIn log (i + 1) found
  command_next found command line its at own c =
      elim (cases_lt i at) [
        | inl last ↦
            let same : at ≡ i + 1 = omega (arith, c.upto) in
            (line ∙ sym same, its ∙ sym (next_line own (rw same at c.there)))
        | inr before ↦
            let other = c.below (i + 1) (omega arith) (omega arith) in
            absurd (command (rw (next_line other.0 other.2) at other.1))
      ]

-- no line is left
pub found_last : (log : List ℕ) (i : ℕ) (rest : List ℕ) (k : ℕ) (found : ℕ × Bor (List ℕ))
    → HasNo 10 rest → i < k → StandBefore log i rest → IsFoundIn log i found
    → IsFoundIn log k found
found_last log i rest k found none h left is at own c =
    elim (cases_lt i at) [
      | inl below ↦
          absurd (no_line rest (suc (at - 1 - i)) own none
          (line_left log i (at - 1 - i) at rest own left (omega arith) c.there))
      | inr before ↦ is at own (above log i k at own c before (omega arith))
    ]

-- all lines were read
pub found_end : (log : List ℕ) (i k : ℕ) (found : ℕ × Bor (List ℕ)) → i ≤ k → k ≤ i
    → IsFoundIn log i found → IsFoundIn log k found
found_end log i k found least most is =
    let same : k ≡ i = omega arith in rw same is

-- by the test of a line, it is a command
pub is_command : (P : Type 0) (test : Bool) → (IsTrue test ↔ P) → test ≡ false → ¬ P
is_command P test is off p = let t = is.1 p in absurd (cc)

-- no line is there yet
pub none_refused : (bytes : List ℕ) → RefusesNoneIn (first_lines 0 bytes)
none_refused bytes =
    let log : Log = record { services = []; callers = λ name. None; waits = None } in (
      0,
      log,
      [],
      record {
        text = [];
        read = nothing log refl (λ name. refl) refl;
        spelled = no_lines bytes;
        ends = λ first after none is.
            absurd (omega (arith, ap length is, length-append first (10 ∷ after)));
      },
      All-nil NoneRefused,
    )

-- the line that decides is no part of what is reported of a reply
refusal_at : (text : List ℕ) (services : List Service) (reported : Refusal) (line : ℕ)
    → IsRefusal text services reported → IsRefusal text services (record reported { line = line })
refusal_at text services reported line is =
    let own = is.report in record {
      s = is.s;
      index = is.index;
      stops = is.stops;
      report = record {
        number = own.number;
        ended = own.ended;
        call = own.call;
        called = own.called;
        words = own.words;
        begin = own.begin;
        begun = own.begun;
        command = own.command;
        window = own.window;
        is_window = own.is_window;
        latest = own.latest;
        begins = own.begins;
        needed = own.needed;
        configurations = own.configurations;
      };
    }

-- a reply is refused down to a line, and none down to one above it
pub record StandsBetween (bytes : List ℕ) (above line : ℕ) (reported : Refusal) : Type 0 where
  pub apart : above < line
  pub none : RefusesNoneIn (first_lines above bytes)
  pub refuses : RefusesIn (first_lines line bytes) reported

pub between_all : (bytes : List ℕ) (line : ℕ) (reported : Refusal) → length bytes ≤ line
    → 0 < line → RefusesIn bytes reported → StandsBetween bytes 0 line reported
between_all bytes line reported all some refuses = record {
  apart = some;
  none = none_refused bytes;
  refuses = subst (λ text. RefusesIn text reported) (sym (lines_all line bytes all)) refuses;
}

module _ (bytes : List ℕ) (above line tried : ℕ) (reported : Refusal)
    (between : StandsBetween bytes above line reported)
  where
    pub between_below : tried < line → RefusesNoneIn (first_lines tried bytes)
        → StandsBetween bytes tried line reported
    between_below h none = record { apart = h; none = none; refuses = between.refuses }

    pub between_above : (found : Refusal) → above < tried
        → RefusesIn (first_lines tried bytes) found → StandsBetween bytes above tried found
    between_above found h refuses =
        record { apart = h; none = between.none; refuses = refuses }

pub decided : (bytes : List ℕ) (above line : ℕ) (reported : Refusal) → line - above ≤ 1
    → StandsBetween bytes above line reported → (other : Refusal) → RefusesIn bytes other
    → IsFirstRefused bytes (record reported { line = line })
decided bytes above line reported one between other whole =
    let refuses = between.refuses in record {
      whole = (other, whole);
      above = above;
      line = omega (arith, between.apart);
      none = between.none;
      refuses = (
        refuses.0,
        refuses.1,
        refuses.2,
        refuses.3,
        refusal_at _ _ reported line refuses.4,
      );
    }
