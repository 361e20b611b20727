-- What a time line shows, and what is drawn of a log.
use Rattle.std.proofs.Common.{◌≡◌, ℕ, zero, suc, ◌+◌, ◌<◌, ◌≤◌, List, [], ◌∷◌, ◌++◌, All, Contains, get_or, length, inl, inr, ap, refl, subst, sym, ◌∙◌, arith, Option, Some, None, IfSome, string_bytes}
use Rattle.std.specs.Borrow.{Bor}
use Rattle.std.specs.Io.KnownBytes.{Appends}
use Rattle.std.proofs.lemmas.Bool.{cases_lt}
use Rattle.std.proofs.lemmas.List.{length-append}
use Rattle.std.proofs.lemmas.List.Elements.{All-contains, All-push, Contains-append_left, Contains-push}
use Rattle.std.proofs.lemmas.List.Quantifiers.{all_pairs_push}
use Rattle.line_streams.specs.Filters.{status_number}
use Rattle.history_drawing.specs.Calls.{text_at}
use Rattle.history_drawing.specs.Coordinates.{IsDrawable}
use Rattle.history_drawing.specs.Drawings.{DrawnWith, IsDrawingOf}
use Rattle.history_drawing.specs.Timelines.{AreApart, AreBars, Extends, HasBar, HasEarlier, IsBar, IsBarOf, IsRow, IsWanted}
use Rattle.history_drawing.specs.declared.calls.LogCall.{LogCall}
use Rattle.history_drawing.specs.declared.drawing.Drawing.{Drawing}
use Rattle.history_drawing.specs.declared.timeline.Bar.{Bar}
use Rattle.history_drawing.specs.declared.timeline.Timeline.{Timeline}
use Rattle.history_drawing.specs.declared.timeline.Window.{Window}
use Rattle.history_drawing.proofs.Rising.{IsPoint}

-- the text of a row that stays
pub row_text : (rows more : List (Bor (List ℕ))) (k : ℕ) → k < length rows
    → text_at (rows ++ more) k ≡ text_at rows k
row_text [] more k h = absurd (omega (arith, h))
row_text (name ∷ rows) more zero h = refl
row_text (name ∷ rows) more (suc k) h = row_text rows more k (omega (arith, h))

-- a row stays
pub row_kept : (old new : List (Bor (List ℕ))) (row last : ℕ) (caller : List ℕ)
    → Extends old new last → IsRow old row caller → IsRow new row caller
row_kept old new row last caller x is =
    let size : length (old ++ x.0) ≡ length old + length x.0 = length-append old x.0 in
    subst (λ (rows : List (Bor (List ℕ))). IsRow rows row caller) (sym x.1)
    (omega (arith, is.0, size), row_text old x.0 row is.0 ∙ is.1)

pub bar_kept : (lines : List (Bor (List ℕ))) (w : Window) (old new : List (Bor (List ℕ)))
    (b : Bar) (last : ℕ) → Extends old new last → IsBar lines w old b → IsBar lines w new b
bar_kept lines w old new b last x (seen, wanted, is) = (
  seen,
  wanted,
  record {
    row = row_kept old new b.row last seen.caller.now x is.row;
    command = is.command;
    begin = is.begin;
    ends = is.ends;
  },
)

module _ (lines : List (Bor (List ℕ))) (w : Window) where
  -- a line in which no wanted call begins
  pub bars_same : (limit : ℕ) (rows : List (Bor (List ℕ))) (bars : List Bar)
      → AreBars lines w limit rows bars → ((seen : LogCall) → IsWanted lines w limit seen → ⊥)
      → AreBars lines w (limit + 1) rows bars
  bars_same limit rows bars h none = record {
    each = h.each;
    all = λ k seen a before is.
        elim (cases_lt k limit) as (λ _. (c : Bar) × Contains bars c × (c.begin ≡ k)) [
          | inl above ↦ h.all k seen a above is
          | inr late ↦
              let same : k ≡ limit = omega (arith, before, late) in
              absurd (none seen (subst (λ (j : ℕ). IsWanted lines w j seen) same is))
        ];
    above = λ k d fits. let was = h.above k d fits in (was.0, omega (arith, was.1));
    rising = h.rising;
    apart = h.apart;
    used = h.used;
    ordered = h.ordered;
    few = h.few;
    wide = h.wide;
  }

  -- one in which one begins
  pub bars_more : (limit : ℕ) (old new : List (Bor (List ℕ))) (bars : List Bar) (b : Bar)
      (seen : LogCall) → AreBars lines w limit old bars → Extends old new b.row
      → (AreApart old → AreApart new) → w.first ≤ limit → IsWanted lines w limit seen
      → IsBarOf new limit seen b → length bars < 200
      → AreBars lines w (limit + 1) new (bars ++ b ∷ [])
  bars_more limit old new bars b seen h x apart from wanted is few =
      let size : length (bars ++ b ∷ []) ≡ length bars + 1 = length-append bars (b ∷ []) in
      let wide : length new ≡ length old + length x.0 =
      ap (length {A = Bor (List ℕ)}) x.1 ∙ length-append old x.0 in
      let here : IsBar lines w new b = (
        seen,
        subst (λ (j : ℕ). IsWanted lines w j seen) (sym is.begin) wanted,
        record { row = is.row; command = is.command; begin = refl; ends = is.ends },
      ) in
      record {
        each = All-push (IsBar lines w new) bars b
            (λ k d fits. bar_kept lines w old new (get_or bars k d) b.row x (h.each k d fits)) here;
        all = λ k other a before its.
            elim (cases_lt k limit) as (λ _. (c : Bar) × Contains (bars ++ b ∷ []) c
            × (c.begin ≡ k)) [
              | inl above ↦
                  let (c, there, begins) = h.all k other a above its in
                  (c, Contains-append_left bars (b ∷ []) c there, begins)
              | inr late ↦
                  let same : limit ≡ k = omega (arith, before, late) in
                  (b, Contains-push bars b, is.begin ∙ same)
            ];
        above = All-push (λ (c : Bar). (w.first ≤ c.begin) × (c.begin < limit + 1)) bars b
            (λ k d fits. let was = h.above k d fits in (was.0, omega (arith, was.1)))
            (subst (λ (n : ℕ). (w.first ≤ n) × (n < limit + 1)) (sym is.begin)
            (from, omega (arith)));
        rising = all_pairs_push (λ (one other : Bar). one.begin < other.begin) bars b h.rising
            (λ k d fits. subst (λ (n : ℕ). (get_or bars k d).begin < n) (sym is.begin)
            (h.above k d fits).1);
        apart = apart h.apart;
        used = λ k fits.
            elim (cases_lt k (length old)) as (λ _. HasBar (bars ++ b ∷ []) k) [
              | inl there ↦
                  let (c, has, row) = h.used k there in
                  (c, Contains-append_left bars (b ∷ []) c has, row)
              | inr late ↦ (b, Contains-push bars b, x.3 k (omega (arith, late)) fits)
            ];
        ordered = All-push (HasEarlier (bars ++ b ∷ [])) bars b
            (λ i d fits k less.
            let (a, has, row, before) = h.ordered i d fits k less in
            (a, Contains-append_left bars (b ∷ []) a has, row, before))
            (λ k less.
            let (a, has, row) = h.used k (omega (arith, less, is.row.0, wide, x.2)) in
            let before : a.begin < limit =
            (All-contains (λ (c : Bar). (w.first ≤ c.begin) × (c.begin < limit)) bars a h.above
            has).1 in
            (a, Contains-append_left bars (b ∷ []) a has, row, omega (arith, before, is.begin)));
        few = omega (arith, size, few);
        wide = omega (arith, size, wide, h.wide, x.2);
      }

-- above the first line no call begins, whatever the limit
pub none_above : (lines : List (Bor (List ℕ))) (w : Window) (limit lower : ℕ)
    (rows : List (Bor (List ℕ))) (bars : List Bar) → limit ≤ w.first → lower ≤ limit
    → AreBars lines w limit rows bars → AreBars lines w lower rows bars
none_above lines w limit lower rows bars early less h = record {
  each = h.each;
  all = λ k seen a before is. absurd (omega (arith, a, before, early, less));
  above = λ k d fits. let was = h.above k d fits in absurd (omega (arith, was.0, was.1, early));
  rising = h.rising;
  apart = h.apart;
  used = h.used;
  ordered = h.ordered;
  few = h.few;
  wide = h.wide;
}

pub drawable : (lines : List (Bor (List ℕ))) (w : Window) (limit : ℕ) (t : Timeline)
    → AreBars lines w limit t.rows.items t.bars.items
    → All (IsPoint t.bars.items) t.points.items → IsDrawable t
drawable lines w limit t h points =
    let rows : All (λ (b : Bar). b.row ≤ 200) t.bars.items =
    λ k d fits. let (seen, wanted, is) = h.each k d fits in
    omega (arith, is.row.0, h.wide, h.few) in
    record {
      bars = h.few;
      rows = omega (arith, h.wide, h.few);
      bar_rows = rows;
      point_rows = λ k d fits.
          let (b, there, within) = points k d fits in
          let few : b.row ≤ 200 =
          All-contains (λ (b : Bar). b.row ≤ 200) t.bars.items b rows there in
          omega (arith, within.row, few);
      point_parts = λ k d fits. let (b, there, within) = points k d fits in within.few;
    }

-- this was drawn of what was read
abbrev pub Drew : Option (List ℕ) → Drawing → Type 0
Drew given d = (bytes : List ℕ) × IfSome given (λ log. bytes ≡ log) × IsDrawingOf bytes d

-- what the writers get of it
pub drawn_with : (given a b e f : Option (List ℕ)) (d : Drawing) → Drew given d
    → Appends a b (string_bytes d.picture) → Appends e f d.message.items
    → IfSome given (λ log. DrawnWith log (status_number d.status) a b e f)
drawn_with None a b e f d drew out err = tt
drawn_with (Some log) a b e f d (bytes, all, is) out err = record {
  d = d;
  is = subst (λ (l : List ℕ). IsDrawingOf l d) all is;
  reported = refl;
  output = out;
  errors = err;
}
