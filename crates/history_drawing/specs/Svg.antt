-- The text of a picture: calls and points, what stands around them, and the whole.
use Rattle.std.specs.Prelude.{ℕ, ◌==◌, ◌&&◌, if◌then◌else◌, leb, List, [], ◌∷◌, ◌++◌, codes, Option, Some, None, ◌+◌, ◌-◌, ◌*◌, ◌/◌, length, max, min, take}
use Rattle.std.specs.List.{flat_map, fold}
use Rattle.std.specs.Fmt.{decimal}
use Rattle.std.specs.Borrow.{Bor}
use Rattle.history_drawing.specs.Coordinates.{left, own_end, end_of, point_of, top, right}
use Rattle.history_drawing.specs.declared.svg.frame.TheConstants.{STYLE}
use Rattle.history_drawing.specs.declared.timeline.Bar.{Bar}
use Rattle.history_drawing.specs.declared.timeline.BarEnd.TheVariants.{Answered, Crashed, Open}
use Rattle.history_drawing.specs.declared.timeline.BarEnd.{BarEnd}
use Rattle.history_drawing.specs.declared.timeline.Point.{Point}
use Rattle.history_drawing.specs.declared.timeline.Timeline.{Timeline}

-- A byte as a document has it: a mark of the language by its name, and what is no letter, digit or
-- mark of ASCII as `?`.
abbrev pub escaped_byte : ℕ → List ℕ
escaped_byte b =
    if b == 38 then codes "&amp;"
    else (if b == 60 then codes "&lt;"
    else (if b == 62 then codes "&gt;"
    else (if leb 32 b && leb b 126 then b ∷ [] else codes "?")))

-- bytes as a document has them
abbrev pub escaped : List ℕ → List ℕ
escaped bytes = flat_map escaped_byte bytes

-- the begin of a document of this size
unfoldable pub open_text : ℕ → ℕ → List ℕ
open_text width height =
    codes "<svg xmlns=\"http://www.w3.org/2000/svg\" viewBox=\"0 0 " ++ (decimal width
    ++ (codes " " ++ (decimal height ++ (codes "\" width=\"" ++ (decimal width
    ++ codes "\" role=\"img\" font-family=\"monospace\">\n")))))

-- a line, as the title and above the picture
unfoldable pub heading_text : List ℕ → List ℕ
heading_text heading =
    codes "<title>" ++ (escaped heading ++ (codes "</title>\n" ++ (STYLE.now
    ++ (codes "<rect class=\"page\" width=\"100%\" height=\"100%\"/>\n"
    ++ (codes "<text class=\"heading\" x=\"12\" y=\"28\">" ++ (escaped heading
    ++ codes "</text>\n"))))))

-- the number of a line, and a line down through the rows
unfoldable pub mark_text : ℕ → ℕ → ℕ → List ℕ
mark_text x bottom line =
    codes "<path class=\"mark\" d=\"M" ++ (decimal x ++ (codes " 48V" ++ (decimal bottom
    ++ (codes "\"/><text class=\"line\" x=\"" ++ (decimal x ++ (codes "\" y=\"62\" dx=\"5\">"
    ++ (decimal line ++ codes "</text>\n")))))))

-- the mark of this line, if there is one
abbrev pub mark_of : List Bar → ℕ → Option ℕ → List ℕ
mark_of bars bottom (Some line) = mark_text (left bars line) bottom line
mark_of bars bottom None = []

-- the marks of the lines in which a call begins and ends
unfoldable pub marks_text : List Bar → ℕ → Bar → List ℕ
marks_text bars bottom b =
    mark_text (left bars b.begin) bottom b.begin ++ mark_of bars bottom (own_end b)

-- a line of a text, so far below the one before
unfoldable pub line_text : ℕ → List ℕ → List ℕ
line_text below line =
    codes "<tspan x=\"12\" dy=\"" ++ (decimal below ++ (codes "\">" ++ (escaped line
    ++ codes "</tspan>\n")))

-- the line, or what stands for an empty one
abbrev pub line_or : List ℕ → List ℕ → List ℕ
line_or empty [] = empty
line_or empty (letter ∷ letters) = letter ∷ letters

-- the lines of a text, each so far below the one before
abbrev pub lines_text : ℕ → List ℕ → List (Bor (List ℕ)) → List ℕ
lines_text below empty lines =
    flat_map (λ (line : Bor (List ℕ)). line_text below (line_or empty line.now)) lines

-- the names of all callers, one a row; calls alone have none
unfoldable pub names_text : List (Bor (List ℕ)) → List ℕ
names_text names =
    codes "<text class=\"name\" y=\"39\">\n"
    ++ (lines_text 64 (codes "(alone)") names ++ codes "</text>\n")

-- what a call is in the picture: another one where its reply is the one in this line
abbrev pub class_of : BarEnd → Option ℕ → List ℕ
class_of (Answered line words) (Some refused) =
    if line == refused then codes "refused" else codes "call"
class_of _ _ = codes "call"

-- what became of a call
abbrev pub words_of : BarEnd → List ℕ
words_of (Answered line words) = words.now
words_of (Crashed line) = codes "died"
words_of Open = codes "open"

-- the begin of what is drawn of a call of this class: its command and what became of it, which a
-- browser shows where the pointer is
unfoldable pub front_text : List ℕ → List ℕ → List ℕ → List ℕ
front_text class command words =
    codes "<g class=\"" ++ (class ++ (codes "\">\n<title>" ++ (escaped command
    ++ (codes ": " ++ (escaped words ++ codes "</title>\n")))))

-- the outline of a bar from one coordinate to another, which is open on the right
unfoldable pub outline_text : ℕ → ℕ → ℕ → List ℕ
outline_text from to y =
    codes "<path class=\"bar\" d=\"M" ++ (decimal to ++ (codes " " ++ (decimal y
    ++ (codes "H" ++ (decimal from ++ (codes "v44H" ++ (decimal to ++ codes "\"/>\n")))))))

-- the right end of a bar: a line where the call was answered, a cross where its caller died, and
-- none where it is open
unfoldable pub end_text : ℕ → ℕ → BarEnd → List ℕ
end_text to y (Answered line words) =
    codes "<path class=\"end\" d=\"M" ++ (decimal to ++ (codes " " ++ (decimal y
    ++ codes "v44\"/>\n")))
end_text to y (Crashed line) =
    codes "<path class=\"cross\" d=\"M" ++ (decimal to ++ (codes " " ++ (decimal y
    ++ codes "m-8 14l16 16m0 -16l-16 16\"/>\n")))
end_text to y Open = []

-- the command of a call, and below it what became of it, cut off behind its bar
unfoldable pub words_text : ℕ → ℕ → ℕ → List ℕ → List ℕ → List ℕ
words_text from width y command words =
    codes "<svg x=\"" ++ (decimal from ++ (codes "\" y=\"" ++ (decimal y
    ++ (codes "\" width=\"" ++ (decimal width
    ++ (codes "\" height=\"44\">\n<text x=\"7\" y=\"18\">" ++ (escaped command
    ++ (codes "</text>\n<text class=\"reply\" x=\"7\" y=\"36\">" ++ (escaped words
    ++ codes "</text></svg></g>\n")))))))))

-- a call from its left border to its right one
unfoldable pub bar_text : List Bar → Option ℕ → Bar → List ℕ
bar_text bars refused b =
    let from = left bars b.begin + 4 in
    let to = end_of bars b.end in
    let y = top b.row in
    front_text (class_of b.end refused) b.command.now (words_of b.end)
    ++ (outline_text from to y
    ++ (end_text to y b.end ++ words_text from (to - from) y b.command.now (words_of b.end)))

-- a number in a circle
unfoldable pub circle_text : ℕ → ℕ → ℕ → List ℕ
circle_text x y number =
    codes "<circle class=\"point\" cx=\"" ++ (decimal x ++ (codes "\" cy=\"" ++ (decimal y
    ++ (codes "\" r=\"9\"/><text class=\"number\" x=\"" ++ (decimal x ++ (codes "\" y=\""
    ++ (decimal y ++ (codes "\" dy=\"3\">" ++ (decimal number ++ codes "</text>\n")))))))))

-- the point at which a call took effect, right below its bar: its number in the order
unfoldable pub point_text : List Bar → Point → List ℕ
point_text bars p = circle_text (point_of bars p.line p.part) (top p.row + 53) p.number

-- where the last row ends
abbrev pub bottom : Timeline → ℕ
bottom t = top (length t.rows.items)

-- the marks of lines, the calls, and the points at which they took effect
unfoldable pub calls_text : Timeline → List ℕ
calls_text t =
    flat_map (marks_text t.bars.items (bottom t)) t.bars.items
    ++ (flat_map (bar_text t.bars.items t.refused) t.bars.items
    ++ flat_map (point_text t.bars.items) t.points.items)

-- how many more configurations there are, and the end of the document
unfoldable pub tail_text : ℕ → List ℕ
tail_text more =
    if more == 0 then codes "</text>\n</svg>\n"
    else codes "<tspan x=\"12\" dy=\"18\">and " ++ (decimal more
    ++ codes " more configurations</tspan>\n</text>\n</svg>\n")

-- the lines of a report as far as they are shown: four, and four for each of at most eight
-- configurations; then how many more configurations there are, and the end of the document
unfoldable pub notes_text : List (Bor (List ℕ)) → ℕ → List ℕ
notes_text notes y =
    codes "<text y=\"" ++ (decimal y ++ (codes "\">\n"
    ++ (lines_text 18 [] (take (min (length notes) 36) notes)
    ++ tail_text ((length notes - 36) / 4))))

-- how wide a picture is at least with these lines below it: 8 pixels for each byte of the longest
-- one, of 1,000 at most
abbrev pub width_for : List (Bor (List ℕ)) → ℕ
width_for notes =
    24
    + 8 * min (fold (λ longest (note : Bor (List ℕ)). max (length note.now) longest) 0 notes) 1000

-- A picture of a time line, with the first line of a report above it and the others below.
unfoldable pub svg_text : Timeline → List ℕ → List (Bor (List ℕ)) → List ℕ
svg_text t heading notes =
    open_text
    (max (max (right t.bars.items + 12) 760) (width_for (take (min (length notes) 36) notes)))
    (bottom t + 40 + 18 * min (length notes) 37)
    ++ (heading_text heading ++ (names_text t.rows.items
    ++ (calls_text t ++ notes_text notes (bottom t + 12))))
