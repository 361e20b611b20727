-- Where things stand in a picture, in pixels.
use Rattle.std.specs.Prelude.{ℕ, ◌+◌, ◌*◌, ◌/◌, ◌≤◌, All, Bool, false, if◌then◌else◌, List, Option, Some, None, count_by, is_some, length, ltb}
use Rattle.history_drawing.specs.declared.timeline.Bar.{Bar}
use Rattle.history_drawing.specs.declared.timeline.BarEnd.TheVariants.{Answered, Crashed, Open}
use Rattle.history_drawing.specs.declared.timeline.BarEnd.{BarEnd}
use Rattle.history_drawing.specs.declared.timeline.Point.{Point}
use Rattle.history_drawing.specs.declared.timeline.Timeline.{Timeline}

-- the line in which a call that begins in this one ends, where that is another one
abbrev pub end_from : ℕ → BarEnd → Option ℕ
end_from begin (Answered line words) = if ltb begin line then Some line else None
end_from begin (Crashed line) = if ltb begin line then Some line else None
end_from begin Open = None

-- the line in which a call ends, where that is another one than that of its begin
abbrev pub own_end : Bar → Option ℕ
own_end b = end_from b.begin b.end

-- whether it is above this line
abbrev pub is_above : ℕ → Option ℕ → Bool
is_above line (Some end) = ltb end line
is_above line None = false

-- the call ends in a line of its own above this one
abbrev pub ends_above : ℕ → Bar → Bool
ends_above line b = is_above line (own_end b)

-- The column of a line: each line in which calls of the picture begin or end has one, in order.
abbrev pub column : List Bar → ℕ → ℕ
column bars line = count_by (λ (b : Bar). ltb b.begin line) bars + count_by (ends_above line) bars

-- how many columns there are
abbrev pub columns : List Bar → ℕ
columns bars = length bars + count_by (λ (b : Bar). is_some (own_end b)) bars

-- where the column of a line begins
abbrev pub left : List Bar → ℕ → ℕ
left bars line = 144 + 118 * column bars line

-- where the last column ends
abbrev pub right : List Bar → ℕ
right bars = 144 + 118 * columns bars

-- where a row begins
abbrev pub top : ℕ → ℕ
top row = 76 + 64 * row

-- where the bar of a call that ends so ends: at the right border where it is open
abbrev pub end_of : List Bar → BarEnd → ℕ
end_of bars (Answered line words) = left bars line + 114
end_of bars (Crashed line) = left bars line + 114
end_of bars Open = right bars

-- Where a point stands in the column of a line: the first of its points in the middle, and each
-- further one halfway or less to the right border.
abbrev pub point_of : List Bar → ℕ → ℕ → ℕ
point_of bars line part = left bars line + 118 * (part + 1) / (part + 2)

-- there are so few of all that each can be drawn
pub record IsDrawable (t : Timeline) : Type 0 where
  pub bars : length t.bars.items ≤ 200
  pub rows : length t.rows.items ≤ 200
  pub bar_rows : All (λ (b : Bar). b.row ≤ 200) t.bars.items
  pub point_rows : All (λ (p : Point). p.row ≤ 200) t.points.items
  pub point_parts : All (λ (p : Point). p.part ≤ 400) t.points.items
