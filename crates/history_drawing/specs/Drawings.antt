-- What is drawn of a log.
use Rattle.std.specs.Prelude.{◌≡◌, ◌⊎◌, ℕ, ◌+◌, ◌-◌, List, [], ◌∷◌, ◌++◌, All, Option, None, Some, drop, length, string_bytes}
use Rattle.std.specs.Borrow.{Bor}
use Rattle.std.specs.Io.KnownBytes.{Appends}
use Rattle.std.specs.List.{flat_map}
use Rattle.line_streams.specs.Filters.{status_number}
use Rattle.line_streams.specs.Spelling.{HasNo}
use Rattle.line_streams.specs.declared.streams.Status.{Status}
use Rattle.line_streams.specs.declared.streams.Status.TheVariants.{Good, Faulty, Unusable}
use Rattle.history_logs.specs.Logs.{Judged}
use Rattle.history_logs.specs.Orders.{HasOrders}
use Rattle.history_logs.specs.Reports.{report_text}
use Rattle.history_logs.specs.declared.logs.verdict.Order.{Order}
use Rattle.history_logs.specs.declared.logs.verdict.Refusal.{Refusal}
use Rattle.history_logs.specs.declared.logs.verdict.Verdict.{Verdict}
use Rattle.history_logs.specs.declared.logs.verdict.Verdict.TheVariants as verdict
use Rattle.history_drawing.specs.Calls.{IsFirstService, IsServiceOf, text_at, texts}
use Rattle.history_drawing.specs.Timelines.{ArePoints, AreBars, HasMany}
use Rattle.history_drawing.specs.Svg.{svg_text}
use Rattle.history_drawing.specs.declared.drawing.Drawing.{Drawing}
use Rattle.history_drawing.specs.declared.drawing.TheConstants.{MANY_CALLS}
use Rattle.history_drawing.specs.declared.timeline.Timeline.{Timeline}
use Rattle.history_drawing.specs.declared.timeline.Window.{Window}

-- a line with its newline
abbrev pub with_newline : List ℕ → List ℕ
with_newline line = line ++ 10 ∷ []

-- The lines of a text, each at the index of its number, and an empty one at 0. What stands behind
-- the last newline is no line.
abbrev pub AreLines : List ℕ → List (Bor (List ℕ)) → Type 0
AreLines text lines =
    (ls : List (List ℕ)) × (rest : List ℕ) × (texts lines ≡ [] ∷ ls)
    × (text ≡ flat_map with_newline ls ++ rest) × All (HasNo 10) ls × HasNo 10 rest

-- the picture of a time line, with this report
abbrev pub IsPicture : List ℕ → Timeline → List ℕ → Type 0
IsPicture report t picture =
    (notes : List (Bor (List ℕ))) × AreLines report notes
    × (picture ≡ svg_text t (text_at notes 1) (drop 2 notes))

-- of the lines of the log, this is the window of a refused reply, with the calls on its service
pub record IsWindow (log : List ℕ) (reported : Refusal) (lines : List (Bor (List ℕ))) (w : Window)
    : Type 0 where
  pub are : AreLines log lines
  pub first : w.first ≡ reported.window
  pub last : w.last ≡ reported.line
  pub service : IsFirstService lines w.service
  pub wanted : IsServiceOf lines w.first (reported.reply + 1) reported.reply w.service w.wanted

-- of the lines of the log, these are all, with the calls on all services
pub record IsWhole (log : List ℕ) (lines : List (Bor (List ℕ))) (w : Window) : Type 0 where
  pub are : AreLines log lines
  pub first : w.first ≡ 0
  pub last : w.last ≡ length lines - 1
  pub wanted : w.wanted ≡ None

-- The picture of a window of these lines: the wanted calls that begin in it, and the points of
-- these orders. The reply in this line is marked.
pub record Shows (lines : List (Bor (List ℕ))) (w : Window) (marked : Option ℕ)
    (orders : List Order) (report picture : List ℕ) : Type 0 where
  pub t : Timeline
  pub bars : AreBars lines w (w.last + 1) t.rows.items t.bars.items
  pub points : ArePoints t.bars.items orders t.points.items
  pub refused : t.refused ≡ marked
  pub is : IsPicture report t picture

-- nothing is drawn, and this is reported
pub record IsUndrawn (message : List ℕ) (d : Drawing) : Type 0 where
  pub status : d.status ≡ Unusable
  pub picture : string_bytes d.picture ≡ []
  pub reported : d.message.items ≡ message

-- nothing is drawn, since there are too many calls: the first line of the report is reported, and
-- that
abbrev pub HasNoRoom : List ℕ → Drawing → Type 0
HasNoRoom report d =
    (notes : List (Bor (List ℕ))) × AreLines report notes
    × IsUndrawn (with_newline (text_at notes 1) ++ MANY_CALLS.now) d

-- a picture is drawn, and nothing is reported
pub record IsDrawn (status : Status) (d : Drawing) : Type 0 where
  pub ended : d.status ≡ status
  pub reported : d.message.items ≡ []

-- the status where no reply is marked, or one is
abbrev pub status_for : Option ℕ → Status
status_for None = Good
status_for (Some marked) = Faulty

-- the picture of a window is drawn with this report, or more than 200 calls belong in it
abbrev pub DrawsLines : List (Bor (List ℕ)) → Window → Option ℕ → List Order → List ℕ → Drawing
    → Type 0
DrawsLines lines w marked orders report d =
    (HasNoRoom report d × HasMany lines w)
    ⊎ (IsDrawn (status_for marked) d × Shows lines w marked orders report (string_bytes d.picture))

-- the picture of all lines of a log that conforms
abbrev pub DrawsAll : List ℕ → List Order → List ℕ → Drawing → Type 0
DrawsAll log orders report d =
    (lines : List (Bor (List ℕ))) × (w : Window) × IsWhole log lines w
    × DrawsLines lines w None orders report d

-- that of the window of a refused reply, which is marked
abbrev pub DrawsWindow : List ℕ → Refusal → List Order → List ℕ → Drawing → Type 0
DrawsWindow log reported orders report d =
    (lines : List (Bor (List ℕ))) × (w : Window) × IsWindow log reported lines w
    × DrawsLines lines w (Some reported.reply) orders report d

-- what is drawn of a log that is judged so, with these orders and this report
abbrev pub Draws : List ℕ → Verdict → List Order → List ℕ → Drawing → Type 0
Draws log (verdict.Conforms n m) orders report d = DrawsAll log orders report d
Draws log (verdict.Refused reported) orders report d = DrawsWindow log reported orders report d
Draws log v orders report d = IsUndrawn report d

-- The log is judged in one way, with an order for each service where it conforms, and else none.
-- This is drawn of it, with the points of these orders and the report on the verdict.
pub record IsDrawingOf (log : List ℕ) (d : Drawing) : Type 0 where
  pub end : Verdict
  pub judged : Judged log end
  pub orders : List Order
  pub explain : HasOrders log end orders
  pub draws : Draws log end orders (report_text end) d

-- the log was drawn: that is the status, and the writers got the picture and what is reported
pub record DrawnWith (log : List ℕ) (status : ℕ) (out_old out_new err_old err_new : Option (List ℕ))
    : Type 0 where
  pub d : Drawing
  pub is : IsDrawingOf log d
  pub reported : status ≡ status_number d.status
  pub output : Appends out_old out_new (string_bytes d.picture)
  pub errors : Appends err_old err_new d.message.items
