-- What is explained of a log down to a line is explained down to each line above it.
use Rattle.history_logs.proofs.Words.{All, All-cons, All-head, All-nil, All-tail, Bool, Contains, GoesOn, IsSeenRightly, Line, List, Log, NoneRefused, Refusal, Service, [], ap, append_assoc, arith, cases_Bool, cases_lt, false, if◌then◌else◌, inl, inr, length, length-append, line_text, refl, suc, sym, true, zero, ℕ, ◌++◌, ◌+◌, ◌-◌, ◌==◌, ◌∙◌, ◌∷◌, ◌≡◌, ◌≤◌, ◌⊎◌}
use Rattle.history_logs.specs.Laws.{LinesAboveAreExplained, OneLineIsRefused}
use Rattle.history_logs.specs.Logs.{HasGood, IsFirstRefused, Judged, PassesBound, first_lines}
use Rattle.history_logs.specs.Reading.{HasRead}
use Rattle.history_logs.specs.Reading.HasRead.{line, note, nothing}
use Rattle.history_logs.proofs.Excluding.{all_right_same, not_right}
use Rattle.history_logs.proofs.FirstLines.{StandFirst, first_more, first_none, no_lines}
use Rattle.history_logs.proofs.Kept.{kept_read}
use Rattle.history_logs.proofs.Readings.{one_reading, read_above}
use Rattle.history_logs.proofs.Unanswered.{Awaits, next_step}

-- the calls that are open wait for their replies
read_awaits : (text : List ℕ) (count : ℕ) (log : Log) → HasRead text count log
    → All Awaits log.services
read_awaits text count log (nothing empty services callers waits) = rw services (All-nil Awaits)
read_awaits text count log (note above number old read first none is) =
    read_awaits above number old read
read_awaits text count log (line above number old read l is none new goes) =
    (next_step old new (number + 1) l (kept_read above number old read)
    (read_awaits above number old read) goes).awaits

read_first : (text : List ℕ) (count : ℕ) (log : Log) → HasRead text count log
    → StandFirst text count
read_first text count log (nothing empty services callers waits) = first_none
read_first text count log (note above number old read first none is) =
    first_more above number first none (read_first above number old read)
read_first text count log (line above number old read l is none new goes) =
    first_more above number (line_text l) none (read_first above number old read)

-- one of two, where both are the same with one of two lists as with another
either_same : (t : Bool) (f g : List ℕ → List ℕ) (xs ys zs : List ℕ) → f xs ≡ f zs
    → g ys ≡ g zs
    → (if t then f (if t then xs else ys) else g (if t then xs else ys))
    ≡ (if t then f zs else g zs)
either_same true f g xs ys zs one other = one
either_same false f g xs ys zs one other = other

lines_lines : (n m : ℕ) (bytes : List ℕ) → n ≤ m
    → first_lines n (first_lines m bytes) ≡ first_lines n bytes
unfolding first_lines
lines_lines zero m bytes h = refl
lines_lines (suc n) zero bytes h = absurd (omega arith)
lines_lines (suc n) (suc m) [] h = refl
lines_lines (suc n) (suc m) (b ∷ bytes) h =
    ap (λ (l : List ℕ). b ∷ l)
    (either_same (b == 10) (first_lines n) (first_lines (suc n)) (first_lines m bytes)
    (first_lines (suc m) bytes) bytes (lines_lines n m bytes (omega arith))
    (lines_lines (suc n) (suc m) bytes h))

-- something follows the first lines
lines_part : (k : ℕ) (bytes : List ℕ)
    → (more : List ℕ) × (bytes ≡ first_lines k bytes ++ more)
unfolding first_lines
lines_part zero bytes = (bytes, refl)
lines_part (suc k) [] = ([], refl)
lines_part (suc k) (b ∷ bytes) =
    elim (cases_Bool (b == 10)) [
      | inl t ↦
          let up = lines_part k bytes in (up.0, rw t (ap (λ (l : List ℕ). b ∷ l) up.1))
      | inr f ↦
          let up = lines_part (suc k) bytes in (up.0, rw f (ap (λ (l : List ℕ). b ∷ l) up.1))
    ]

-- what is explained of what is read with a line is explained of what is read above it
right_up : (above : List ℕ) (number : ℕ) (old new : Log) (l : Line) → HasRead above number old
    → GoesOn old (number + 1) l new → All IsSeenRightly new.services
    → All IsSeenRightly old.services
right_up above number old new l read goes =
    (next_step old new (number + 1) l (kept_read above number old read)
    (read_awaits above number old read) goes).back

-- Where lines are good, so are the first ones of them, and what is explained of all is explained of
-- these.
good_above : (bytes : List ℕ) (n m : ℕ) → n ≤ m → (count : ℕ) (log : Log) (rest : List ℕ)
    → HasGood (first_lines m bytes) count log rest → All IsSeenRightly log.services
    → (number : ℕ) × (old : Log) × (back : List ℕ) × HasGood (first_lines n bytes) number old back
    × All IsSeenRightly old.services
good_above bytes n m h count log rest g right =
    let same : first_lines n bytes ≡ first_lines n (g.text ++ rest) =
    sym (lines_lines n m bytes h) ∙ ap (first_lines n) g.spelled in
    elim (cases_lt n count) [
      | inl less ↦
          let p =
          read_above (λ (x : Log). All IsSeenRightly x.services) right_up n g.text count log g.read
          (omega arith) right in
          let all : g.text ++ rest ≡ p.above ++ (p.after ++ rest) =
          ap (λ (l : List ℕ). l ++ rest) p.whole ∙ append_assoc p.above p.after rest in
          let none : n ≡ n + 0 = omega arith in (
            n,
            p.old,
            [],
            record {
              text = p.above;
              read = p.read;
              spelled = same ∙ ap (first_lines n) all
                  ∙ ap (λ k. first_lines k (p.above ++ (p.after ++ rest))) none
                  ∙ read_first p.above n p.old p.read 0 (p.after ++ rest)
                  ∙ ap (λ (l : List ℕ). p.above ++ l) (no_lines (p.after ++ rest));
              ends = λ first after bars is.
                  absurd (omega (arith, ap length is, length-append first (10 ∷ after)));
            },
            p.holds,
          )
      | inr more ↦
          let k = n - count in
          let all : n ≡ count + k = omega arith in
          let part = lines_part k rest in (
            count,
            log,
            first_lines k rest,
            record {
              text = g.text;
              read = g.read;
              spelled = same ∙ ap (λ i. first_lines i (g.text ++ rest)) all
                  ∙ read_first g.text count log g.read k rest;
              ends = λ first after bars is.
                  g.ends first (after ++ part.0) bars
                  (part.1 ∙ ap (λ (l : List ℕ). l ++ part.0) is
                  ∙ append_assoc first (10 ∷ after) part.0);
            },
            right,
          )
    ]

pub explained_above : LinesAboveAreExplained
explained_above bytes n m h count other_count log other rest other_rest g w right =
    let up = good_above bytes n m h other_count other other_rest w right in
    let same = one_reading (first_lines n bytes) up.0 count up.1 log up.2 rest up.3 g in
    all_right_same up.1.services log.services same.2.services up.4

-- all is explained of the services, or a bound is passed
some_bound : (ss : List Service) → All NoneRefused ss
    → All IsSeenRightly ss
    ⊎ ((s : Service) × (line : ℕ) × Contains ss s × PassesBound s line)
some_bound [] all = inl (All-nil IsSeenRightly)
some_bound (s ∷ ss) all =
    elim (All-head NoneRefused s ss all) [
      | inl right ↦ elim (some_bound ss (All-tail NoneRefused s ss all)) [
        | inl rest ↦ inl (All-cons IsSeenRightly s ss right rest)
        | inr b ↦
            let is = b.2 in inr (b.0, b.1, (suc is.0, omega (arith, is.1), is.2), b.3)
      ]
      | inr b ↦ inr (s, b.0, (0, omega arith, refl), b.1)
    ]

module _ (bytes : List ℕ) (r : Refusal) (first : IsFirstRefused bytes r) where
  refused_below : (m : ℕ) → r.line ≤ m → (count : ℕ) (log : Log) (rest : List ℕ)
      → HasGood (first_lines m bytes) count log rest → ¬ (All IsSeenRightly log.services)
  refused_below m h count log rest g right =
      let p = first.refuses in
      not_right (first_lines r.line bytes) p.0 p.1 p.2 p.3
      (explained_above bytes r.line m h p.0 count p.1 log p.2 rest p.3 g right) r p

pub one_line_refused : (bytes : List ℕ) → OneLineIsRefused bytes
unfolding Judged
one_line_refused bytes = record {
  below = refused_below bytes;
  apart = λ r q above one other h is.
      let none : other.above ≡ above = omega (arith, other.line, is) in
      let p = rw none at other.none in
      elim (some_bound p.1.services p.4) [
        | inl right ↦
            absurd (refused_below bytes r one above h p.0 p.1 p.2 p.3 right)
        | inr b ↦ (p.0, p.1, p.2, p.3, b)
      ];
}
