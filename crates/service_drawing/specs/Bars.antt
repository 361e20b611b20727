-- The bar of a message: its parts from left to right, and their offsets.
use Rattle.std.specs.Prelude.{ℕ, Bool, ◌==◌, ◌||◌, ◌&&◌, if◌then◌else◌, leb, ltb, List, [], ◌∷◌, ◌++◌, codes, ◌+◌, ◌-◌, ◌*◌, ◌/◌, ◌%◌, length, max, map}
use Rattle.std.specs.List.{flat_map, fold, range_with_len}
use Rattle.std.specs.Fmt.{decimal}
use Rattle.std.specs.declared.ops.Range.{Range}
use Rattle.service_drawing.specs.Layout.{apart, span}
use Rattle.service_drawing.specs.declared.layout.MessageLayout.{MessageLayout}

-- how far to the right the byte at this offset is drawn
abbrev pub x_of : ℕ → ℕ → ℕ
x_of size offset = 200 + offset * 7200 / max size 1

-- a rectangle in a bar
unfoldable pub box_text : ℕ → ℕ → List ℕ → List ℕ
box_text left width color =
    codes "<rect x=\"" ++ (decimal left ++ (codes "\" y=\"0\" width=\"" ++ (decimal width
    ++ (codes "\" height=\"460\" class=\"part " ++ (color ++ codes "\"/>\n")))))

-- the rectangle of bytes that lie within a message of this size, if there are any
unfoldable pub rectangle_text : ℕ → List ℕ → Range ℕ → List ℕ
rectangle_text size color s =
    if leb s.end s.start then []
    else box_text (x_of size s.start) (x_of size s.end - x_of size s.start) color

-- the class of an element: every other one has another color
abbrev pub color_of : ℕ → List ℕ
color_of i = if i % 2 == 0 then codes "payload" else codes "other"

-- an element that is drawn alone
abbrev pub element_text : MessageLayout → ℕ → List ℕ
element_text l i =
    rectangle_text l.size (color_of i) (span (l.payload.start + i * l.element) l.element)

-- the elements from this one on
abbrev pub elements_from : MessageLayout → ℕ → Range ℕ
elements_from l i = record { start = l.payload.start + i * l.element; end = l.payload.end }

-- how wide a number is at most
abbrev pub number_width : ℕ → ℕ
number_width n = 70 * length (decimal n)

-- what is written in the middle of elements that are drawn as one
unfoldable pub labelled : ℕ → List ℕ → ℕ → List ℕ → List ℕ
labelled x sign elements what =
    codes "<text x=\"" ++ (decimal x
    ++ (codes "\" y=\"270\" font-size=\"110\" text-anchor=\"middle\" class=\"label\">"
    ++ (sign ++ (decimal elements ++ (what ++ codes "</text>\n")))))

-- how many elements are drawn as one: with what they are where that fits, or else the number alone,
-- and nothing where that is too wide
unfoldable pub label_text : ℕ → Range ℕ → ℕ → List ℕ → List ℕ
label_text size s elements what =
    let left = x_of size s.start in
    let right = x_of size s.end in
    let width = number_width elements + 70 in
    if leb s.end s.start || ltb (right - left) width then []
    else (if leb (width + 70 * length what) (right - left)
    then labelled ((left + right) / 2) [] elements what
    else labelled ((left + right) / 2) (codes "+") elements [])

-- the first elements one by one, and all others as one
unfoldable pub elements_text : MessageLayout → List ℕ
elements_text l =
    let others = elements_from l (apart l) in
    let what = if apart l == 0 then codes " elements" else codes " more" in
    flat_map (element_text l) (range_with_len 0 (apart l))
    ++ (rectangle_text l.size (codes "payload") others
    ++ label_text l.size others (l.elements - apart l) what)

-- how far an offset reaches to the left and to the right
abbrev pub half_width : ℕ → ℕ
half_width offset = number_width offset / 2 + 40

-- the offset does not reach left of what is free, nor into the last one
abbrev pub is_marked : ℕ → ℕ → ℕ → Bool
is_marked size free offset =
    leb (free + half_width offset) (x_of size offset)
    && leb (x_of size offset + half_width offset + number_width size) 7400

-- an offset below its place, if it fits
unfoldable pub mark_text : ℕ → ℕ → ℕ → List ℕ
mark_text size free offset =
    if is_marked size free offset
    then codes "<text x=\"" ++ (decimal (x_of size offset)
    ++ (codes "\" y=\"610\" font-size=\"110\" text-anchor=\"middle\">" ++ (decimal offset
    ++ codes "</text>\n")))
    else []

-- what is free behind it
unfoldable pub free_behind : ℕ → ℕ → ℕ → ℕ
free_behind size free offset =
    if is_marked size free offset then x_of size offset + half_width offset else free

-- offsets, as far as they fit
abbrev pub marks_text : ℕ → ℕ → List ℕ → List ℕ
marks_text size free [] = []
marks_text size free (offset ∷ offsets) =
    mark_text size free offset ++ marks_text size (free_behind size free offset) offsets

-- where the elements that are drawn one by one begin, and the next one
abbrev pub starts : MessageLayout → List ℕ
starts l = map (λ i. l.payload.start + i * l.element) (range_with_len 0 (apart l + 1))

-- the offset 0
unfoldable pub first_mark_text : List ℕ
first_mark_text = codes "<text x=\"200\" y=\"610\" font-size=\"110\">0</text>\n"

-- the offset at which a message ends
unfoldable pub last_mark_text : ℕ → List ℕ
last_mark_text size =
    codes "<text x=\"7400\" y=\"610\" font-size=\"110\" text-anchor=\"end\">" ++ (decimal size
    ++ codes "</text>\n")

-- where the headers end, and what follows each begins
abbrev pub ends : MessageLayout → List ℕ
ends l = l.header.end ∷ l.user_header.start ∷ l.user_header.end ∷ l.payload.start ∷ []

-- the offsets of the headers, of the elements and of the end of the payload, as far as they fit
unfoldable pub inner_marks_text : MessageLayout → List ℕ
inner_marks_text l =
    let free = fold (free_behind l.size) 310 (ends l) in
    marks_text l.size 310 (ends l)
    ++ (marks_text l.size free (starts l)
    ++ mark_text l.size (fold (free_behind l.size) free (starts l)) l.payload.end)

-- the first offset and the last, and those between them
unfoldable pub all_marks_text : MessageLayout → List ℕ
all_marks_text l =
    if l.size == 0 then first_mark_text
    else first_mark_text ++ (inner_marks_text l ++ last_mark_text l.size)

-- the header and the user header, and the padding behind each
unfoldable pub headers_text : MessageLayout → List ℕ
headers_text l =
    rectangle_text l.size (codes "header") l.header
    ++ (rectangle_text l.size (codes "empty") l.first_gap
    ++ (rectangle_text l.size (codes "user-header") l.user_header
    ++ rectangle_text l.size (codes "empty") l.second_gap))

-- the parts of a message from left to right, and below them their offsets
unfoldable pub bar_text : MessageLayout → List ℕ
bar_text l =
    headers_text l
    ++ (elements_text l ++ (rectangle_text l.size (codes "empty") l.spare ++ all_marks_text l))
