-- A log is read in one way.
use Rattle.history_logs.proofs.Words.{GoesOn, HasNo, IsTrue, Line, List, Log, None, Takes, [], ap, append-nil, append_assoc, arith, before_one, cases_lt, cases_order, inl, inr, is_note, line_text, refl, subst, suc, sym, zero, ℕ, ◌++◌, ◌+◌, ◌<◌, ◌∙◌, ◌∷◌, ◌≡◌, ◌≤◌, ◌⊎◌}
use Rattle.log_lines.proofs.OneReading.{notes_are_none}
use Rattle.history_logs.specs.Laws.{LogsHaveOneReading}
use Rattle.history_logs.specs.Logs.{HasGood}
use Rattle.history_logs.specs.Reading.{HasRead}
use Rattle.history_logs.specs.Reading.HasRead.{line, note, nothing}
use Rattle.history_logs.specs.SameLogs.{IsSameLog}
use Rattle.log_lines.proofs.OneLine.{same_line}
use Rattle.history_logs.proofs.FirstLines.{behind}
use Rattle.history_logs.proofs.Kept.{kept_read}
use Rattle.history_logs.proofs.SameSteps.{step_same, step_too}

-- nothing was read
record IsStart (text : List ℕ) (log : Log) : Type 0 where
  text_is : text ≡ []
  services : log.services ≡ []
  callers : (name : List ℕ) → log.callers name ≡ None
  waits : log.waits ≡ None

-- this was read of the lines above a line, and this of it
record IsStep (text : List ℕ) (count : ℕ) (log : Log) : Type 0 where
  above : List ℕ
  number : ℕ
  old : Log
  read : HasRead above number old
  first : List ℕ
  none : HasNo 10 first
  whole : text ≡ above ++ (first ++ 10 ∷ [])
  next : count ≡ number + 1
  takes : Takes old (number + 1) first None log

last_line : (text : List ℕ) (count : ℕ) (log : Log) → HasRead text count log
    → ((count ≡ 0) × IsStart text log) ⊎ IsStep text count log
last_line text count log (nothing empty services callers waits) = inl (
  refl,
  record { text_is = refl; services = services; callers = callers; waits = waits },
)
last_line text count log (note above number old read first none is) = inr (record {
  above = above;
  number = number;
  old = old;
  read = read;
  first = first;
  none = none;
  whole = refl;
  next = refl;
  takes = inl (is, refl);
})
last_line text count log (line above number old read l is none new goes) = inr (record {
  above = above;
  number = number;
  old = old;
  read = read;
  first = line_text l;
  none = none;
  whole = refl;
  next = refl;
  takes = inr (l, is, refl, goes);
})

takes_same : (old other : Log) → IsSameLog old other → (k : ℕ) (text : List ℕ) (new next : Log)
    → Takes old k text None new → Takes other k text None next → IsSameLog new next
takes_same old other same k text new next (inl g) (inl h) = rw (g.1, h.1) same
takes_same old other same k text new next (inl g) (inr h) =
    absurd (notes_are_none h.0 h.1 (subst (λ (l : List ℕ). IsTrue (is_note l)) (sym h.2) g.0))
takes_same old other same k text new next (inr g) (inl h) =
    absurd (notes_are_none g.0 g.1 (subst (λ (l : List ℕ). IsTrue (is_note l)) (sym g.2) h.0))
takes_same old other same k text new next (inr g) (inr h) =
    step_same old other same k new next g.0 h.0 (same_line g.0 h.0 g.1 h.1 (g.2 ∙ sym h.2)) g.3 h.3

-- as many lines of one log are the same text, and the same was read of them
abbrev AreRead : ℕ → Type 0
AreRead n =
    (text other_text rest other_rest : List ℕ) (log other : Log)
    → HasRead text n log → HasRead other_text n other
    → text ++ rest ≡ other_text ++ other_rest → (rest ≡ other_rest) × IsSameLog log other

start_same : (text other_text rest other_rest : List ℕ) (log other : Log) → IsStart text log
    → IsStart other_text other → text ++ rest ≡ other_text ++ other_rest
    → (rest ≡ other_rest) × IsSameLog log other
start_same text other_text rest other_rest log other p q e =
    let follows : rest ≡ other_rest = rw (p.text_is, q.text_is) at e in (
      follows,
      record {
        services = rw (p.services, q.services) tt;
        callers = λ i name. (q.callers name ∙ sym (p.callers name)) i;
        waits = rw (p.waits, q.waits) tt;
      },
    )

more_same : (n : ℕ) → AreRead n → (text other_text rest other_rest : List ℕ) (log other : Log)
    → IsStep text (suc n) log → IsStep other_text (suc n) other
    → text ++ rest ≡ other_text ++ other_rest → (rest ≡ other_rest) × IsSameLog log other
more_same n each text other_text rest other_rest log other p q e =
    let m : p.number ≡ n = omega (arith, p.next) in
    let o : q.number ≡ n = omega (arith, q.next) in
    let both : p.above ++ (p.first ++ 10 ∷ rest) ≡ q.above ++ (q.first ++ 10 ∷ other_rest) =
    sym (behind p.above p.first [] rest) ∙ (ap (λ (l : List ℕ). l ++ rest) (sym p.whole)
    ∙ (e ∙ (ap (λ (l : List ℕ). l ++ other_rest) q.whole
    ∙ behind q.above q.first [] other_rest))) in
    let up =
    each p.above q.above (p.first ++ 10 ∷ rest) (q.first ++ 10 ∷ other_rest) p.old q.old
    (subst (λ k. HasRead p.above k p.old) m p.read) (subst (λ k. HasRead q.above k q.old) o q.read)
    both in
    let here =
    (before_one 10).same (p.first, rest) (q.first, other_rest) p.none q.none up.0 in (
      here.1,
      takes_same p.old q.old up.1 (n + 1) q.first log other
          (subst (λ (l : List ℕ). Takes p.old (n + 1) l None log) here.0
          (subst (λ k. Takes p.old (k + 1) p.first None log) m p.takes))
          (subst (λ k. Takes q.old (k + 1) q.first None other) o q.takes),
    )

read_same : (n : ℕ) → AreRead n
read_same zero text other_text rest other_rest log other p q e =
    elim (last_line text zero log p) [
      | inl a ↦ elim (last_line other_text zero other q) [
        | inl b ↦ start_same text other_text rest other_rest log other a.1 b.1 e
        | inr b ↦ absurd (omega (arith, b.next))
      ]
      | inr a ↦ absurd (omega (arith, a.next))
    ]
read_same (suc n) text other_text rest other_rest log other p q e =
    elim (last_line text (suc n) log p) [
      | inl a ↦ absurd (omega (arith, a.0))
      | inr a ↦ elim (last_line other_text (suc n) other q) [
        | inl b ↦ absurd (omega (arith, b.0))
        | inr b ↦ more_same n (read_same n) text other_text rest other_rest log other a b e
      ]
    ]

-- what was read of the first lines of those that were read, and this holds of it
pub record IsReadAbove (P : Log → Type 0) (n : ℕ) (text : List ℕ) : Type 0 where
  pub above : List ℕ
  pub old : Log
  pub read : HasRead above n old
  pub after : List ℕ
  pub whole : text ≡ above ++ after
  pub holds : P old

-- so it is where it holds of what is read above a line if it holds of what is read with it
module _ (P : Log → Type 0) (up : (above : List ℕ) (number : ℕ) (old new : Log) (l : Line)
    → HasRead above number old → GoesOn old (number + 1) l new → P new → P old) where
  above_all : (n : ℕ) (text : List ℕ) (count : ℕ) (log : Log) → HasRead text count log → n ≡ count
      → P log → IsReadAbove P n text
  above_all n text count log read is p = record {
    above = text;
    old = log;
    read = rw is read;
    after = [];
    whole = sym (append-nil text);
    holds = p;
  }

  above_more : (n : ℕ) (text more : List ℕ) → IsReadAbove P n text → IsReadAbove P n (text ++ more)
  above_more n text more a = record {
    above = a.above;
    old = a.old;
    read = a.read;
    after = a.after ++ more;
    whole = ap (λ (l : List ℕ). l ++ more) a.whole ∙ append_assoc a.above a.after more;
    holds = a.holds;
  }

  pub read_above : (n : ℕ) (text : List ℕ) (count : ℕ) (log : Log) → HasRead text count log
      → n ≤ count → P log → IsReadAbove P n text
  read_above n text count log (nothing empty services callers waits) h p =
      above_all n [] 0 log (nothing empty services callers waits) (omega arith) p
  read_above n text count log (note above number old read first none is) h p =
      elim (cases_lt n (number + 1)) [
        | inr all ↦ above_all n _ _ _ (note above number old read first none is) (omega arith) p
        | inl less ↦
            above_more n above (first ++ 10 ∷ []) (read_above n above number old read (omega arith)
            p)
      ]
  read_above n text count log (line above number old read l is none new goes) h p =
      elim (cases_lt n (number + 1)) [
        | inr all ↦
            above_all n _ _ _ (line above number old read l is none new goes) (omega arith) p
        | inl less ↦
            above_more n above (line_text l ++ 10 ∷ []) (read_above n above number old read
            (omega arith) (up above number old new l read goes p))
      ]

-- where no line may come next, no more are read
no_step : (bytes : List ℕ) (count : ℕ) (log : Log) (rest : List ℕ) → HasGood bytes count log rest
    → (text after : List ℕ) (new : Log) → bytes ≡ text ++ after → ¬ (IsStep text (count + 1) new)
no_step bytes count log rest g text after new spelled p =
    let m : p.number ≡ count = omega (arith, p.next) in
    let whole : p.above ++ (p.first ++ 10 ∷ after) ≡ g.text ++ rest =
    sym (behind p.above p.first [] after)
    ∙ (ap (λ (l : List ℕ). l ++ after) (sym p.whole) ∙ (sym spelled ∙ g.spelled)) in
    let same =
    read_same count p.above g.text (p.first ++ 10 ∷ after) rest p.old log
    (subst (λ k. HasRead p.above k p.old) m p.read) g.read whole in
    let ends = g.ends p.first after p.none (sym same.0) in
    elim (subst (λ k. Takes p.old (k + 1) p.first None new) m p.takes) [
      | inl is ↦ ends.0 is.0
      | inr l ↦
          let goes =
          step_too p.old log same.1 (kept_read g.text count log g.read) (count + 1) new l.0 l.3 in
          ends.1 l.0 goes.0 l.1 l.2 goes.1
    ]

no_more : (bytes : List ℕ) (count : ℕ) (log : Log) (rest : List ℕ) → HasGood bytes count log rest
    → (n : ℕ) (other : Log) (other_rest : List ℕ) → HasGood bytes n other other_rest
    → ¬ (count < n)
no_more bytes count log rest g n other other_rest h less =
    let a =
    read_above (λ x. Unit {0}) (λ above number old new l read goes p. tt) (count + 1) h.text n other
    h.read (omega arith) tt in
    let spelled : bytes ≡ a.above ++ (a.after ++ other_rest) =
    h.spelled ∙ (ap (λ (l : List ℕ). l ++ other_rest) a.whole
    ∙ append_assoc a.above a.after other_rest) in
    elim (last_line a.above (count + 1) a.old a.read) [
      | inl none ↦ absurd (omega (arith, none.0))
      | inr p ↦ no_step bytes count log rest g a.above (a.after ++ other_rest) a.old spelled p
    ]

pub one_reading : LogsHaveOneReading
one_reading bytes count other_count log other rest other_rest g h =
    elim (cases_order count other_count) [
      | inl e ↦
          let same =
          read_same other_count g.text h.text rest other_rest log other
          (subst (λ k. HasRead g.text k log) e g.read) h.read (sym g.spelled ∙ h.spelled) in
          (e, same.0, same.1)
      | inr (inl less) ↦
          absurd (no_more bytes count log rest g other_count other other_rest h less)
      | inr (inr more) ↦
          absurd (no_more bytes other_count other other_rest h count log rest g more)
    ]
