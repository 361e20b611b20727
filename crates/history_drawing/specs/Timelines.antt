-- Calls as bars on a time line, and where they took effect.
use Rattle.std.specs.Prelude.{◌≡◌, ◌≢◌, ℕ, ◌<◌, ◌≤◌, ◌==◌, max, ◌++◌, All, AllPairs, Contains, List, [], ◌∷◌, Option, None, Some, length, ◌⊎◌, ◌+◌, count_by, get_or, take}
use Rattle.std.specs.Borrow.{Bor}
use Rattle.history_drawing.specs.Calls.{BeginsIn, text_at}
use Rattle.history_drawing.specs.declared.calls.LogCall.{LogCall}
use Rattle.history_drawing.specs.declared.timeline.Bar.{Bar}
use Rattle.history_drawing.specs.declared.timeline.Timeline.{Timeline}
use Rattle.history_drawing.specs.declared.timeline.Window.{Window}
use Rattle.std.specs.List.{AllZip, flat_map}
use Rattle.history_logs.specs.declared.logs.verdict.Order.{Order}
use Rattle.history_drawing.specs.declared.timeline.BarEnd.TheVariants.{Answered, Crashed, Open}
use Rattle.history_drawing.specs.declared.timeline.BarEnd.{BarEnd}
use Rattle.history_drawing.specs.declared.timeline.Point.{Point}

-- all services are wanted, or the call is on the one of this number: it stands before the call, or
-- it is that of the first service and none stands there
abbrev pub IsOn : Option ℕ → Option ℕ → Option ℕ → Type 0
IsOn None first number = Unit {0}
IsOn (Some wanted) first (Some number) = number ≡ wanted
IsOn (Some wanted) first None = first ≡ Some wanted

-- the call begins in this line, and is wanted
abbrev pub IsWanted : List (Bor (List ℕ)) → Window → ℕ → LogCall → Type 0
IsWanted lines w k seen =
    BeginsIn lines k (w.last + 1) seen × IsOn w.wanted w.service seen.service

-- the row of this index is the caller's
abbrev pub IsRow : List (Bor (List ℕ)) → ℕ → List ℕ → Type 0
IsRow rows row caller = (row < length rows) × (text_at rows row ≡ caller)

-- the caller has no row
abbrev pub IsUnknown : List (Bor (List ℕ)) → List ℕ → Type 0
IsUnknown rows caller = (k : ℕ) → k < length rows → text_at rows k ≢ caller

-- no two rows are one caller's
abbrev pub AreApart : List (Bor (List ℕ)) → Type 0
AreApart rows = (j k : ℕ) → j < k → k < length rows → text_at rows j ≢ text_at rows k

-- The rows that were there stay. There is one more at most, and it is this one.
abbrev pub Extends : List (Bor (List ℕ)) → List (Bor (List ℕ)) → ℕ → Type 0
Extends old new row =
    (more : List (Bor (List ℕ))) × (new ≡ old ++ more) × (length more ≤ 1)
    × ((k : ℕ) → length old ≤ k → k < length new → row ≡ k)

-- a bar is this call, which begins in this line: it is in the row of its caller, with its command
-- and its end
pub record IsBarOf (rows : List (Bor (List ℕ))) (line : ℕ) (seen : LogCall) (b : Bar) : Type 0
  where
    pub row : IsRow rows b.row seen.caller.now
    pub command : b.command ≡ seen.command
    pub begin : b.begin ≡ line
    pub ends : b.end ≡ seen.end

-- a bar is a wanted call of the lines
abbrev pub IsBar : List (Bor (List ℕ)) → Window → List (Bor (List ℕ)) → Bar → Type 0
IsBar lines w rows b =
    (seen : LogCall) × IsWanted lines w b.begin seen × IsBarOf rows b.begin seen b

-- the row of this index has a bar
abbrev pub HasBar : List Bar → ℕ → Type 0
HasBar bars row = (b : Bar) × Contains bars b × (b.row ≡ row)

-- each row above that of this bar has one that begins before it
abbrev pub HasEarlier : List Bar → Bar → Type 0
HasEarlier bars b =
    (k : ℕ) → k < b.row → (a : Bar) × Contains bars a × (a.row ≡ k) × (a.begin < b.begin)

-- The bars are all wanted calls that begin in lines from the first one on and above this one, each
-- once, in the order of their begins. There are 200 at most. Each caller has one row, each row has
-- a bar, and the rows are in the order in which their first bars begin.
pub record AreBars (lines : List (Bor (List ℕ))) (w : Window) (limit : ℕ)
    (rows : List (Bor (List ℕ))) (bars : List Bar) : Type 0 where
  pub each : All (IsBar lines w rows) bars
  pub all : (k : ℕ) (seen : LogCall) → w.first ≤ k → k < limit → IsWanted lines w k seen
      → (b : Bar) × Contains bars b × (b.begin ≡ k)
  pub above : All (λ (b : Bar). (w.first ≤ b.begin) × (b.begin < limit)) bars
  pub rising : AllPairs (λ (one other : Bar). one.begin < other.begin) bars
  pub apart : AreApart rows
  pub used : (k : ℕ) → k < length rows → HasBar bars k
  pub ordered : All (HasEarlier bars) bars
  pub few : length bars ≤ 200
  pub wide : length rows ≤ length bars

-- More than 200 wanted calls begin in lines of the window: 200 have bars, and in a line below those
-- one more begins.
pub record HasMany (lines : List (Bor (List ℕ))) (w : Window) : Type 0 where
  pub limit : ℕ
  pub rows : List (Bor (List ℕ))
  pub bars : List Bar
  pub are : AreBars lines w limit rows bars
  pub many : length bars ≡ 200
  pub inside : (w.first ≤ limit) × (limit ≤ w.last)
  pub seen : LogCall
  pub wanted : IsWanted lines w limit seen

-- the bars of a window, with no point, and this line marked
pub record IsTimeline (lines : List (Bor (List ℕ))) (w : Window) (marked : Option ℕ)
    (t : Timeline) : Type 0 where
  pub bars : AreBars lines w (w.last + 1) t.rows.items t.bars.items
  pub points : t.points.items ≡ []
  pub refused : t.refused ≡ marked

-- the call is not over above this line
abbrev pub Reaches : BarEnd → ℕ → Type 0
Reaches (Answered end words) line = line ≤ end
Reaches (Crashed end) line = line ≤ end
Reaches Open line = Unit {0}

-- the point lies in the bar: in its row, below its begin and above its end
pub record IsWithin (b : Bar) (p : Point) : Type 0 where
  pub row : p.row ≡ b.row
  pub begun : b.begin ≤ p.line
  pub reached : Reaches b.end p.line
  pub few : p.part ≤ 400

-- the point lies in the bar of the call that begins in this line
abbrev pub IsPointOf : List Bar → ℕ → Point → Type 0
IsPointOf bars line p = (b : Bar) × Contains bars b × (b.begin ≡ line) × IsWithin b p

-- a point is left of another
abbrev pub IsLeft : Point → Point → Type 0
IsLeft one other =
    (one.line < other.line) ⊎ ((one.line ≡ other.line) × (one.part < other.part))

-- the last one of these lines; 0 where there is none
abbrev pub last_of : List ℕ → ℕ
last_of [] = 0
last_of (line ∷ lines) = max line (last_of lines)

-- how many of the points have this line
abbrev pub points_at : ℕ → List Point → ℕ
points_at line points = count_by (λ (q : Point). q.line == line) points

-- The points of calls that took effect in this order, by the lines in which they begin: of its
-- first calls one each, with their numbers from 1 on, each in the bar of its call and right of
-- those before it. Each has the first line that it can have, which is the last one in which its
-- call or one before it begins; its part is how many points before it have this line. If a call has
-- none, then there are 400 before it, or in its bar is no point right of them.
pub record ArePointsOf (bars : List Bar) (lines : List ℕ) (points : List Point) : Type 0 where
  pub calls : AllZip (IsPointOf bars) (take (length points) lines) points
  pub numbers : (k : ℕ) (d : Point) → k < length points → (get_or points k d).number ≡ k + 1
  pub rising : AllPairs IsLeft points
  pub earliest : (k : ℕ) (d : Point) → k < length points
      → (get_or points k d).line ≡ last_of (take (k + 1) lines)
  pub parts : (k : ℕ) (d : Point) → k < length points
      → (get_or points k d).part ≡ points_at (get_or points k d).line (take k points)
  pub full : length points < length lines → length points < 400 → (p : Point)
      → All (λ (q : Point). IsLeft q p) points
      → ¬ (IsPointOf bars (get_or lines (length points) 0) p)

-- the points of the calls of each of these orders, one order after the other
abbrev pub ArePoints : List Bar → List Order → List Point → Type 0
ArePoints bars orders points =
    (each : List (List Point)) × (points ≡ flat_map (λ (ps : List Point). ps) each)
    × AllZip (λ (o : Order). ArePointsOf bars o.lines.items) orders each

-- The point of a call that begins in this line comes behind another, or is the first, where the
-- number of that one is 0: it has the next number, and the later one of both lines. Its part is 0,
-- or the next one where the other has the same line.
pub record Follows (begin : ℕ) (before p : Point) : Type 0 where
  pub number : p.number ≡ before.number + 1
  pub line : p.line ≡ max begin before.line
  pub first : before.number ≡ 0 → p.part ≡ 0
  pub later : before.line < p.line → p.part ≡ 0
  pub beside : 0 < before.number → p.line ≡ before.line → p.part ≡ before.part + 1
