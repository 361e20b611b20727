-- Bars in rising order, and the points of orders.
use Rattle.std.proofs.Common.{◌≡◌, ◌⊎◌, ℕ, ◌+◌, ◌<◌, ◌≤◌, max, cond, List, [], ◌∷◌, ◌++◌, All, AllPairs, Contains, get_or, length, take, flat_map, inl, inr, ap, refl, subst, sym, ◌∙◌, arith}
use Rattle.std.specs.List.{AllZip}
use Rattle.std.specs.Prelude.{◌==◌}
use Rattle.std.proofs.lemmas.Bool.{cases_lt, cond-false, cond-true, eq-eqb, ne_eqb}
use Rattle.std.proofs.lemmas.List.{append-nil, get_or_default, get_or_push, length-append, take-append-le, take_more}
use Rattle.std.proofs.lemmas.List.Sums.{sum_by-cons, sum_by_push}
use Rattle.std.proofs.Math.Seq.{take-append_seam}
use Rattle.std.proofs.lemmas.Grind.{common_steps, flat_map-append}
use Rattle.std.proofs.lemmas.List.Elements.{All-append, All-cons, All-contains, All-head, All-nil, All-push, All-tail, Contains-push}
use Rattle.std.proofs.lemmas.List.Quantifiers.{all_pairs_push}
use Rattle.std.proofs.lemmas.Slice.Zip.{all_zipped_more}
use Rattle.history_logs.specs.declared.logs.verdict.Order.{Order}
use Rattle.history_drawing.specs.Timelines.{ArePoints, ArePointsOf, Follows, IsLeft, IsPointOf, IsWithin, Reaches, last_of, points_at}
use Rattle.history_drawing.specs.declared.timeline.Bar.{Bar}
use Rattle.history_drawing.specs.declared.timeline.BarEnd.{BarEnd}
use Rattle.history_drawing.specs.declared.timeline.Point.{Point}

-- a point is not right of another
abbrev UpTo : Point → Point → Type 0
UpTo q p = (q.line < p.line) ⊎ ((q.line ≡ p.line) × (q.part ≤ p.part))

-- these are the points of the first calls of the order, so many, and this one is the last
pub record SoFar (bars : List Bar) (lines : List ℕ) (at : ℕ) (ps : List Point) (before : Point)
    : Type 0 where
  pub size : length ps ≡ at
  pub calls : AllZip (IsPointOf bars) (take at lines) ps
  pub numbers : (k : ℕ) (d : Point) → k < length ps → (get_or ps k d).number ≡ k + 1
  pub rising : AllPairs IsLeft ps
  pub earliest : (k : ℕ) (d : Point) → k < length ps
      → (get_or ps k d).line ≡ last_of (take (k + 1) lines)
  pub parts : (k : ℕ) (d : Point) → k < length ps
      → (get_or ps k d).part ≡ points_at (get_or ps k d).line (take k ps)
  pub line : before.line ≡ last_of (take at lines)
  pub beside : 0 < at → points_at before.line ps ≡ before.part + 1
  pub number : before.number ≡ at
  pub part : before.part ≤ before.number
  pub last : All (λ (q : Point). UpTo q before) ps
  pub right : (p : Point) → All (λ (q : Point). IsLeft q p) ps → before.line ≤ p.line

left_of : (line : ℕ) (q before p : Point) → UpTo q before → 0 < before.number
    → Follows line before p → IsLeft q p
left_of line q before p upto some f = grind (arith, f.later, f.beside, f.line)

up_to : (q p : Point) → IsLeft q p → UpTo q p
up_to q p left = grind arith

below : (q p : Point) → IsLeft q p → q.line ≤ p.line
below q p left = grind arith

-- what holds of each point holds of one more
each_more : (P : ℕ → Point → Type 0) (ps : List Point) (p : Point)
    → ((k : ℕ) (d : Point) → k < length ps → P k (get_or ps k d)) → P (length ps) p
    → (k : ℕ) (d : Point) → k < length (ps ++ p ∷ []) → P k (get_or (ps ++ p ∷ []) k d)
each_more P ps p was is k d h =
    elim (cases_lt k (length ps)) as (λ _. P k (get_or (ps ++ p ∷ []) k d)) [
      | inl before ↦
          let low : get_or (ps ++ p ∷ []) k d ≡ get_or ps k d = grind (arith, common_steps) in
          subst (P k) (sym low) (was k d before)
      | inr late ↦
          let last : length ps ≡ k =
          omega (arith, h, late, length-append ps (p ∷ [])) in
          subst (P k) (sym (get_or_push ps p d k last)) (subst (λ (n : ℕ). P n p) last is)
    ]

last_more : (lines : List ℕ) (line : ℕ)
    → last_of (lines ++ line ∷ []) ≡ max line (last_of lines)
last_more [] line = refl
last_more (one ∷ lines) line = let h = last_more lines line in grind (arith, h)

-- the points of a line below those of all
none_at : (line : ℕ) (ps : List Point) → All (λ (q : Point). q.line < line) ps
    → points_at line ps ≡ 0
none_at line [] above = refl
none_at line (q ∷ ps) above =
    let one = All-head (λ (q : Point). q.line < line) q ps above in
    let rest = none_at line ps (All-tail (λ (q : Point). q.line < line) q ps above) in
    let off : cond {A = ℕ} (q.line == line) 1 0 ≡ 0 =
    cond-false (q.line == line) 1 0 (ne_eqb q.line line (λ same. omega (arith, one, same))) in
    sum_by-cons (λ (x : Point). cond (x.line == line) 1 0) q ps ∙ omega (arith, off, rest)

one_at : (p : Point) (ps : List Point) → points_at p.line (ps ++ p ∷ []) ≡ points_at p.line ps + 1
one_at p ps =
    sum_by_push (λ (x : Point). cond (x.line == p.line) 1 0) ps p
    ∙ ap (λ (n : ℕ). points_at p.line ps + n)
    (cond-true (p.line == p.line) 1 0 (eq-eqb p.line p.line refl))

module _ (bars : List Bar) (lines : List ℕ) where
  module _ (at : ℕ) (ps : List Point) (before : Point) (s : SoFar bars lines at ps before) where
    -- how many points have the line of the next one
    next_part : (line : ℕ) (p : Point) → Follows line before p → points_at p.line ps ≡ p.part
    next_part line p f =
        elim (cases_lt before.line p.line) as (λ _. points_at p.line ps ≡ p.part) [
          | inl below ↦
              none_at p.line ps (λ k d h. let upto = s.last k d h in grind arith)
              ∙ sym (f.later below)
          | inr late ↦
              elim (cases_lt 0 at) as (λ _. points_at p.line ps ≡ p.part) [
                | inl some ↦
                    let same : p.line ≡ before.line = grind (arith, f.line) in
                    ap (λ (n : ℕ). points_at n ps) same
                    ∙ (s.beside some ∙ sym (f.beside (omega (arith, s.number, some)) same))
                | inr none ↦
                    none_at p.line ps (λ k d h. absurd (omega (arith, h, s.size, none)))
                    ∙ sym (f.first (omega (arith, s.number, none)))
              ]
        ]

    pub one_more : (p : Point) → at < length lines → IsPointOf bars (get_or lines at 0) p
        → Follows (get_or lines at 0) before p → p.part ≤ p.number
        → SoFar bars lines (at + 1) (ps ++ p ∷ []) p
    one_more p within is f part =
        let lefts : All (λ (q : Point). IsLeft q p) ps =
        λ k d h. left_of (get_or lines at 0) (get_or ps k d) before p (s.last k d h)
        (omega (arith, h, s.number, s.size)) f in
        let size : length (ps ++ p ∷ []) ≡ length ps + 1 = length-append ps (p ∷ []) in
        let taken : take (at + 1) lines ≡ take at lines ++ get_or lines at 0 ∷ [] =
        take_more lines at 0 within in
        let beside : points_at p.line ps ≡ p.part = next_part (get_or lines at 0) p f in
        let line : p.line ≡ last_of (take (at + 1) lines) =
        f.line ∙ (ap (λ (n : ℕ). max (get_or lines at 0) n) s.line
        ∙ (sym (last_more (take at lines) (get_or lines at 0)) ∙ ap last_of (sym taken))) in
        record {
          size = omega (arith, size, s.size);
          calls = subst (λ (l : List ℕ). AllZip (IsPointOf bars) l (ps ++ p ∷ [])) (sym taken)
              (all_zipped_more (IsPointOf bars) (take at lines) ps (get_or lines at 0) p
              s.calls is);
          numbers = each_more (λ (k : ℕ) (q : Point). q.number ≡ k + 1) ps p s.numbers
              (omega (arith, f.number, s.number, s.size));
          rising = all_pairs_push IsLeft ps p s.rising lefts;
          earliest = each_more (λ (k : ℕ) (q : Point). q.line ≡ last_of (take (k + 1) lines)) ps
              p s.earliest (subst (λ (n : ℕ). p.line ≡ last_of (take (n + 1) lines))
              (sym s.size) line);
          parts = each_more (λ (k : ℕ) (q : Point).
              q.part ≡ points_at q.line (take k (ps ++ p ∷ []))) ps p
              (λ k d h. s.parts k d h ∙ ap (points_at (get_or ps k d).line)
              (sym (take-append-le k ps (p ∷ []) (omega (arith, h)))))
              (sym beside ∙ ap (points_at p.line) (sym (take-append_seam ps (p ∷ []))));
          line = line;
          beside = λ some. one_at p ps ∙ ap (λ (n : ℕ). n + 1) beside;
          number = omega (arith, f.number, s.number);
          part = part;
          last = All-push (λ (q : Point). UpTo q p) ps p
              (λ k d h. up_to (get_or ps k d) p (lefts k d h)) (inr (refl, omega arith));
          right = λ other all. below p other
              (All-contains (λ (q : Point). IsLeft q other) (ps ++ p ∷ []) p all
              (Contains-push ps p));
        }

    calls_taken : AllZip (IsPointOf bars) (take (length ps) lines) ps
    calls_taken =
        subst (λ (n : ℕ). AllZip (IsPointOf bars) (take n lines) ps) (sym s.size) s.calls

    pub first_points : (before.number < 400 → (p : Point) → before.line ≤ p.line
        → IsPointOf bars (get_or lines at 0) p → ⊥) → ArePointsOf bars lines ps
    first_points none = record {
      calls = calls_taken;
      numbers = s.numbers;
      rising = s.rising;
      earliest = s.earliest;
      parts = s.parts;
      full = λ more few p lefts is.
          none (omega (arith, few, s.number, s.size)) p (s.right p lefts)
          (subst (λ (n : ℕ). IsPointOf bars (get_or lines n 0) p) s.size is);
    }

-- the next of these orders
pub orders_next : (bars : List Bar) (orders : List Order) (i : ℕ) (o : Order) (lines : List ℕ)
    (old new : List Point) → i < length orders → o ≡ get_or orders i o
    → lines ≡ o.lines.items → ArePoints bars (take i orders) old
    → (ps : List Point) × (new ≡ old ++ ps) × ArePointsOf bars lines ps
    → ArePoints bars (take (i + 1) orders) new
orders_next bars orders i o lines old new h is same (each, made, zip) (ps, more, next) =
    let all : List (List Point) → List Point = flat_map (λ (l : List Point). l) in
    let joined : all (each ++ ps ∷ []) ≡ all each ++ ps =
    flat_map-append (λ (l : List Point). l) each (ps ∷ [])
    ∙ ap (λ (l : List Point). all each ++ l) (append-nil ps) in
    let longer : take (i + 1) orders ≡ take i orders ++ o ∷ [] =
    take_more orders i o h ∙ ap (λ (x : Order). take i orders ++ x ∷ []) (sym is) in
    let are : Order → List Point → Type 0 = λ x. ArePointsOf bars x.lines.items in (
      each ++ ps ∷ [],
      more ∙ (ap (λ (l : List Point). l ++ ps) made ∙ sym joined),
      subst (λ (l : List Order). AllZip are l (each ++ ps ∷ [])) (sym longer)
          (all_zipped_more are (take i orders) each o ps zip
          (subst (λ (l : List ℕ). ArePointsOf bars l ps) same next)),
    )

-- the point lies in one of the bars
abbrev pub IsPoint : List Bar → Point → Type 0
IsPoint bars p = (b : Bar) × Contains bars b × IsWithin b p

-- each point of a picture lies in a bar
pub in_bars : (bars : List Bar) (orders : List Order) (points : List Point)
    → ArePoints bars orders points → All (IsPoint bars) points
in_bars bars orders points (each, is, zip) =
    subst (λ (l : List Point). All (IsPoint bars) l) (sym is) (all_in orders each zip)
  where
    one_in : (lines : List ℕ) (ps : List Point) → AllZip (IsPointOf bars) lines ps
        → All (IsPoint bars) ps
    one_in [] [] h = All-nil (IsPoint bars)
    one_in [] (p ∷ ps) h = absurd h
    one_in (line ∷ lines) [] h = absurd h
    one_in (line ∷ lines) (p ∷ ps) h =
        let (b, has, begins, within) = h.0 in
        All-cons (IsPoint bars) p ps (b, has, within) (one_in lines ps h.1)

    all_in : (orders : List Order) (each : List (List Point))
        → AllZip (λ (o : Order). ArePointsOf bars o.lines.items) orders each
        → All (IsPoint bars) (flat_map (λ (ps : List Point). ps) each)
    all_in [] [] h = All-nil (IsPoint bars)
    all_in [] (ps ∷ each) h = absurd h
    all_in (o ∷ orders) [] h = absurd h
    all_in (o ∷ orders) (ps ∷ each) h =
        All-append (IsPoint bars) ps (flat_map (λ (l : List Point). l) each)
        (one_in (take (length ps) o.lines.items) ps h.0.calls) (all_in orders each h.1)

-- one bar begins in a line
pub one_bar : (bars : List Bar) (a b : Bar)
    → AllPairs (λ (one other : Bar). one.begin < other.begin) bars
    → Contains bars a → Contains bars b → a.begin ≡ b.begin → a ≡ b
one_bar bars a b rising (i, h, is) (j, k, at) same =
    let here : get_or bars j a ≡ b = get_or_default bars j a b k ∙ at in
    let one = ap (λ (x : Bar). x.begin) is in
    let other = ap (λ (x : Bar). x.begin) here in
    elim (cases_lt i j) as (λ _. a ≡ b) [
      | inl less ↦ absurd (omega (arith, rising i j a less k, one, other, same))
      | inr late ↦
          elim (cases_lt j i) as (λ _. a ≡ b) [
            | inl less ↦ absurd (omega (arith, rising j i a less h, one, other, same))
            | inr none ↦
                let equal : i ≡ j = omega (arith, late, none) in
                sym is ∙ (ap (λ (n : ℕ). get_or bars n a) equal ∙ here)
          ]
    ]

-- no point lies in the bar of a call that is over above the line in which it would be
pub none_after : (bars : List Bar) (b : Bar) (line first : ℕ)
    → AllPairs (λ (one other : Bar). one.begin < other.begin) bars
    → Contains bars b → b.begin ≡ line → ¬ (Reaches b.end first) → (p : Point)
    → (b.begin ≤ p.line → first ≤ p.line) → ¬ (IsPointOf bars line p)
none_after bars b line first rising has begins over p behind (a, there, is, within) =
    let same : a ≡ b = one_bar bars a b rising there has (is ∙ sym begins) in
    over (reaches_above b.end first p.line
    (behind (subst (λ (x : Bar). x.begin ≤ p.line) same within.begun))
    (subst (λ (x : Bar). Reaches x.end p.line) same within.reached))
  where
    reaches_above : (e : BarEnd) (first line : ℕ) → first ≤ line → Reaches e line
        → Reaches e first
    reaches_above e first line h r = grind arith
