-- The lines above one.
use Rattle.history_logs.proofs.Words.{All, All-head, All-tail, Expected, GoesOn, HasNo, HasNoNext, IsKept, IsOrderly, IsReadTo, IsTrue, List, Log, None, Option, Service, Some, Takes, [], ap, arith, before_one, calls_in, inl, inr, is_note, length, length-append, line_text, refl, subst, sum_by, sym, ℕ, ◌++◌, ◌+◌, ◌<◌, ◌∙◌, ◌∷◌, ◌≡◌, ◌≢◌, ◌≤◌}
use Rattle.history_logs.specs.declared.logs.verdict.Expected.TheVariants as expected
use Rattle.history_logs.specs.Good.{EndsSo}
use Rattle.history_logs.specs.Logs.{EndsThere, IsMissing}
use Rattle.history_logs.specs.Reading.{HasRead}
use Rattle.history_logs.specs.Reading.HasRead.{nothing, note, line}
use Rattle.history_logs.proofs.FirstLines.{behind}
use Rattle.history_logs.proofs.Kept.{few_step, kept_new, kept_step}

-- the lines above this one are this text, and this was read of them
pub record IsAbove (bytes : List ℕ) (log : Log) (rest : List ℕ) (line : ℕ) : Type 0 where
  pub text : List ℕ
  pub count : ℕ
  pub read : HasRead text count log
  pub spelled : bytes ≡ text ++ rest
  pub is : line ≡ count + 1
  pub kept : IsKept log
  pub few : calls_in log ≤ count
  pub short : count ≤ length text

pub above_new : (bytes : List ℕ) (log : Log) → log.services ≡ []
    → ((name : List ℕ) → log.callers name ≡ None) → log.waits ≡ None → IsAbove bytes log bytes 1
above_new bytes log services callers waits =
    let none : calls_in log ≡ 0 =
    ap (sum_by (λ (s : Service). length s.commands)) services in
    record {
      text = [];
      count = 0;
      read = nothing log services callers waits;
      spelled = refl;
      is = refl;
      kept = kept_new log services callers waits;
      few = omega arith;
      short = omega arith;
    }

one_line : (bytes text rest own after : List ℕ) → bytes ≡ text ++ rest → rest ≡ own ++ 10 ∷ after
    → bytes ≡ (text ++ (own ++ 10 ∷ [])) ++ after
one_line bytes text rest own after is comes =
    is ∙ (ap (λ (l : List ℕ). text ++ l) comes ∙ sym (behind text own [] after))

longer : (text own : List ℕ) (count : ℕ) → count ≤ length text
    → count + 1 ≤ length (text ++ (own ++ 10 ∷ []))
longer text own count less =
    omega (arith, length-append text (own ++ 10 ∷ []), length-append own (10 ∷ []))

pub above_more : (bytes : List ℕ) (old new : Log) (rest : List ℕ) (k : ℕ) (text after : List ℕ)
    → IsAbove bytes old rest k → HasNo 10 text → rest ≡ text ++ 10 ∷ after
    → Takes old k text None new → IsAbove bytes new after (k + 1)
above_more bytes old new rest k text after a bars comes t =
    elim t as (λ _. IsAbove bytes new after (k + 1)) [
      | inl same ↦ subst (λ (x : Log). IsAbove bytes x after (k + 1)) (sym same.1) (record {
        text = a.text ++ (text ++ 10 ∷ []);
        count = a.count + 1;
        read = note a.text a.count old a.read text bars same.0;
        spelled = one_line bytes a.text rest text after a.spelled comes;
        is = ap (λ n. n + 1) a.is;
        kept = a.kept;
        few = omega arith;
        short = longer a.text text a.count a.short;
      })
      | inr goes ↦
          let g = subst (λ n. GoesOn old n goes.0 new) a.is goes.3 in
          record {
            text = a.text ++ (line_text goes.0 ++ 10 ∷ []);
            count = a.count + 1;
            read = line a.text a.count old a.read goes.0 goes.1
                (subst (HasNo 10) (sym goes.2) bars) new g;
            spelled = one_line bytes a.text rest (line_text goes.0) after a.spelled
                (comes ∙ ap (λ (l : List ℕ). l ++ 10 ∷ after) (sym goes.2));
            is = ap (λ n. n + 1) a.is;
            kept = kept_step old new k goes.0 a.kept goes.3;
            few = omega (arith, few_step old new k goes.0 goes.3);
            short = longer a.text (line_text goes.0) a.count a.short;
          }
    ]

-- there is room for the number of one line more
pub above_room : (bytes : List ℕ) (log : Log) (rest : List ℕ) (k : ℕ) (text after : List ℕ)
    → IsAbove bytes log rest k → rest ≡ text ++ 10 ∷ after → k ≤ length bytes
above_room bytes log rest k text after a comes =
    omega (
      arith,
      ap length a.spelled,
      length-append a.text rest,
      ap length comes,
      length-append text (10 ∷ after),
    )

no_newline : (first after : List ℕ) → ¬ (HasNo 10 (first ++ 10 ∷ after))
no_newline [] after bars = All-head (λ b. b ≢ 10) 10 after bars refl
no_newline (x ∷ first) after bars =
    no_newline first after (All-tail (λ b. b ≢ 10) x (first ++ 10 ∷ after) bars)

ends_none : (log : Log) (count : ℕ) (rest : List ℕ) → HasNo 10 rest → EndsThere log count rest
ends_none log count rest bars first after hasno is =
    absurd (no_newline first after (subst (HasNo 10) is bars))

ends_bad : (log : Log) (count : ℕ) (rest text back : List ℕ) → HasNo 10 text
    → rest ≡ text ++ 10 ∷ back → (¬ (IsTrue (is_note text))) → HasNoNext log (count + 1) text
    → EndsThere log count rest
ends_bad log count rest text back bars comes says next first after hasno is =
    let same = (before_one 10).same (text, back) (first, after) bars hasno (sym comes ∙ is) in (
      λ n. says (subst (λ (l : List ℕ). IsTrue (is_note l)) (sym same.0) n),
      λ l new p spelled. next l new p (spelled ∙ sym same.0),
    )

read_to : (bytes : List ℕ) (log : Log) (rest : List ℕ) (k : ℕ) (services : List Service)
    (bad : Option (ℕ × Expected)) → (a : IsAbove bytes log rest k) → log.services ≡ services
    → EndsThere log a.count rest → EndsSo log a.count rest bad → IsReadTo bytes services bad
read_to bytes log rest k services bad a same there ends = record {
  count = a.count;
  log = log;
  rest = rest;
  good = record { text = a.text; read = a.read; spelled = a.spelled; ends = there };
  same = same;
  orderly = subst (All IsOrderly) same a.kept.orderly;
  few = omega (arith, ap length a.spelled, length-append a.text rest);
  ends = ends;
}

pub read_newline : (bytes : List ℕ) (log : Log) (rest : List ℕ) (k : ℕ)
    → IsAbove bytes log rest k → HasNo 10 rest → rest ≢ []
    → IsReadTo bytes log.services (Some (k, expected.Newline))
read_newline bytes log rest k a bars some =
    read_to bytes log rest k log.services (Some (k, expected.Newline)) a refl
    (ends_none log a.count rest bars) (inr (inl (some, bars, refl)), a.is)

pub read_bad : (bytes : List ℕ) (old new : Log) (rest : List ℕ) (k : ℕ) (text after : List ℕ)
    (e : Expected) → IsAbove bytes old rest k → HasNo 10 text → rest ≡ text ++ 10 ∷ after
    → Takes old k text (Some e) new → IsReadTo bytes new.services (Some (k, e))
read_bad bytes old new rest k text after e a bars comes t =
    let is = t a.kept in
    read_to bytes old rest k new.services (Some (k, e)) a (sym is.3)
    (ends_bad old a.count rest text after bars comes is.0
    (subst (λ n. HasNoNext old n text) a.is is.1))
    (inr (inr (text, after, bars, comes, is.0, is.2)), a.is)

pub read_missing : (bytes : List ℕ) (log : Log) (rest : List ℕ) (k : ℕ) (e : Expected)
    → IsAbove bytes log rest k → rest ≡ [] → HasNo 10 rest → IsMissing log e
    → IsReadTo bytes log.services (Some (k, e))
read_missing bytes log rest k e a empty bars missing =
    read_to bytes log rest k log.services (Some (k, e)) a refl
    (ends_none log a.count rest bars) (inl (empty, missing), a.is)

pub read_whole : (bytes : List ℕ) (log : Log) (rest : List ℕ) (k : ℕ)
    → IsAbove bytes log rest k → rest ≡ [] → HasNo 10 rest → log.waits ≡ None
    → 0 < length log.services → IsReadTo bytes log.services None
read_whole bytes log rest k a empty bars waits some =
    read_to bytes log rest k log.services None a refl (ends_none log a.count rest bars)
    (empty, waits, some)
