-- The picture of a described service.
use Rattle.std.specs.Prelude.{ℕ, zero, suc, ◌==◌, ◌||◌, ◌&&◌, if◌then◌else◌, leb, List, [], ◌∷◌, ◌++◌, codes, Option, Some, None, ◌+◌, ◌-◌, ◌^◌, ◌≡◌, length, min, take, drop}
use Rattle.std.specs.List.{flat_map}
use Rattle.std.specs.Int.{div_ceil}
use Rattle.std.specs.Fmt.{decimal}
use Rattle.std.specs.Borrow.{Bor}
use Rattle.std.specs.declared.ops.Range.{Range}
use Rattle.iox2_config.specs.Hashing.{pattern_word}
use Rattle.iox2_config.specs.declared.types.type_detail.TypeDetail.{TypeDetail}
use Rattle.service_drawing.specs.Bars.{bar_text}
use Rattle.service_drawing.specs.Layout.{AreSegments, Shown, apart, is_shown, layout_of, memory_text, number_of, rows_of}
use Rattle.service_drawing.specs.declared.description.Description.{Description}
use Rattle.service_drawing.specs.declared.description.Exchange.{Exchange}
use Rattle.service_drawing.specs.declared.description.Exchange.TheVariants.{PublishSubscribe, Event, RequestResponse, Blackboard}
use Rattle.service_drawing.specs.declared.description.Message.{Message}
use Rattle.service_drawing.specs.declared.description.Segment.{Segment}
use Rattle.service_drawing.specs.declared.layout.MessageLayout.{MessageLayout}
use Rattle.service_drawing.specs.declared.svg.TheConstants.{STYLE}
use Rattle.service_drawing.specs.declared.svg.lines.Face.{Face}
use Rattle.service_drawing.specs.declared.svg.lines.TheConstants.{NAME, NOTE, TYPE}

-- A byte as a document has it: a mark of the language by its name, and what is no letter, digit or
-- mark of ASCII as `?`.
abbrev pub escaped_byte : ℕ → List ℕ
escaped_byte b =
    if b == 38 then codes "&amp;"
    else (if b == 60 then codes "&lt;"
    else (if b == 62 then codes "&gt;"
    else (if leb 32 b && leb b 126 then b ∷ [] else codes "?")))

-- bytes as a document has them
abbrev pub escaped : List ℕ → List ℕ
escaped bytes = flat_map escaped_byte bytes

-- so far below, as far as 64 bits have it
unfoldable pub below : ℕ → ℕ → ℕ
below top height = min (top + height) (2 ^ 64 - 1)

-- a line of letters
unfoldable pub line_text : Face → ℕ → List ℕ → List ℕ
line_text f top line =
    codes "<text x=\"" ++ (decimal f.left ++ (codes "\" y=\"" ++ (decimal top
    ++ (codes "\" dy=\"" ++ (decimal f.size ++ (codes "\" font-size=\"" ++ (decimal f.size
    ++ (codes "\" font-family=\"monospace\" xml:space=\"preserve\">" ++ (escaped line
    ++ codes "</text>\n")))))))))

-- how many lines a text takes
abbrev pub number_of_lines : Face → List ℕ → ℕ
number_of_lines f text = div_ceil (length text) f.columns

-- the first n lines of a text, each below the one before
abbrev pub lines_text : Face → ℕ → ℕ → List ℕ → List ℕ
lines_text f top zero text = []
lines_text f top (suc n) text =
    line_text f top (take (min (length text) f.columns) text)
    ++ lines_text f (below top f.height) n (drop (min (length text) f.columns) text)

-- where n lines end
abbrev pub lines_end : Face → ℕ → ℕ → ℕ
lines_end f top zero = top
lines_end f top (suc n) = lines_end f (below top f.height) n

-- a text in as many lines as it takes
abbrev pub written : Face → ℕ → List ℕ → List ℕ
written f top text = lines_text f top (number_of_lines f text) text

-- where it ends
abbrev pub written_end : Face → ℕ → List ℕ → ℕ
written_end f top text = lines_end f top (number_of_lines f text)

-- the alignment of a type, that which an opener has for it, if there is one, and its name
unfoldable pub type_line : TypeDetail → Option TypeDetail → List ℕ
type_line d (Some opener) =
    codes "alignment " ++ (decimal d.alignment ++ (codes ", opener's "
    ++ (decimal opener.alignment ++ (codes ", " ++ d.type_name))))
type_line d None = codes "alignment " ++ (decimal d.alignment ++ (codes ", " ++ d.type_name))

-- the type of a part
unfoldable pub types_text : ℕ → Option (TypeDetail × Option TypeDetail) → List ℕ
types_text top (Some types) = written TYPE top (type_line types.0 types.1)
types_text top None = []

-- where it ends
unfoldable pub types_end : ℕ → Option (TypeDetail × Option TypeDetail) → ℕ
types_end top (Some types) = written_end TYPE top (type_line types.0 types.1)
types_end top None = top

-- a square of this color
unfoldable pub square_text : ℕ → List ℕ → List ℕ
square_text top class =
    codes "<rect x=\"200\" y=\"" ++ (decimal top
    ++ (codes "\" width=\"140\" height=\"140\" class=\"part " ++ (class ++ codes "\"/>\n")))

-- what lies in a span, and its offset
unfoldable pub offset_text : ℕ → List ℕ → ℕ → List ℕ
offset_text top name offset =
    codes "<text x=\"440\" y=\"" ++ (decimal top ++ (codes "\" dy=\"115\">" ++ (name
    ++ (codes ": offset " ++ (decimal offset ++ codes ", ")))))

-- a size
unfoldable pub length_text : ℕ → List ℕ
length_text size = number_of size (codes "byte") ++ codes "</text>\n"

-- what lies in a span, and its offset and size
unfoldable pub place_text : ℕ → List ℕ → Range ℕ → List ℕ
place_text top name s = offset_text top name s.start ++ length_text (s.end - s.start)

-- the color of a part or of padding, what it is, its offset and its size, and the type of a part
unfoldable pub row_text : ℕ → Shown → List ℕ
row_text top r =
    if is_shown r
    then square_text top r.class
    ++ (place_text top r.name r.span ++ types_text (below top 200) r.types)
    else []

-- where it ends
unfoldable pub row_end : ℕ → Shown → ℕ
row_end top r = if is_shown r then below (types_end (below top 200) r.types) 40 else top

-- rows, each below the one before
abbrev pub rows_text : ℕ → List Shown → List ℕ
rows_text top [] = []
rows_text top (r ∷ rows) = row_text top r ++ rows_text (row_end top r) rows

-- where they end
abbrev pub rows_end : ℕ → List Shown → ℕ
rows_end top [] = top
rows_end top (r ∷ rows) = rows_end (row_end top r) rows

-- how many elements of which size there are
unfoldable pub all_line : ℕ → ℕ → List ℕ
all_line elements size =
    number_of elements (codes "element") ++ (codes " of " ++ number_of size (codes "byte"))

-- the same, with how many are drawn one by one, and how many others
unfoldable pub apart_line : ℕ → ℕ → ℕ → ℕ → List ℕ
apart_line elements size apart others =
    all_line elements size ++ (codes ": " ++ (decimal apart ++ (codes " one by one, and "
    ++ (decimal others ++ codes " more"))))

-- how many elements there are, and how many of them are drawn one by one if others are not
unfoldable pub elements_line : MessageLayout → List ℕ
elements_line l =
    if apart l == 0 || apart l == l.elements then all_line l.elements l.element
    else apart_line l.elements l.element (apart l) (l.elements - apart l)

-- a line, if there is one
abbrev pub written_if : ℕ → Option (Bor (List ℕ)) → List ℕ
written_if top (Some text) = written NOTE top text.now
written_if top None = []

-- where it ends
abbrev pub written_if_end : ℕ → Option (Bor (List ℕ)) → ℕ
written_if_end top (Some text) = written_end NOTE top text.now
written_if_end top None = top

-- the lines of notes end here
abbrev pub elements_end : ℕ → MessageLayout → ℕ
elements_end top l = written_end NOTE (below top 60) (elements_line l)

-- how many elements there are, the memory of a port, and whether the opener is compatible
unfoldable pub notes_text : ℕ → Segment → MessageLayout → List ℕ
notes_text top s l =
    written NOTE (below top 60) (elements_line l)
    ++ (written NOTE (elements_end top l) (memory_text s l)
    ++ written_if (written_end NOTE (elements_end top l) (memory_text s l)) s.opener)

-- where they end
unfoldable pub notes_end : ℕ → Segment → MessageLayout → ℕ
notes_end top s l =
    written_if_end (written_end NOTE (elements_end top l) (memory_text s l)) s.opener

-- the size and the alignment of a message, and the begin of its bar
unfoldable pub size_text : ℕ → ℕ → ℕ → List ℕ
size_text top size alignment =
    number_of size (codes "byte") ++ (codes ", alignment " ++ (decimal alignment
    ++ (codes "</text>\n<g transform=\"translate(0 " ++ (decimal top ++ codes ")\">\n"))))

-- a message that has a layout: its size and alignment, its bar, its rows and notes
unfoldable pub layout_text : ℕ → Segment → MessageLayout → List ℕ
layout_text top s l =
    let rows = rows_of s.message.now l in
    size_text top l.size s.message.now.details.header.alignment
    ++ (bar_text l ++ (codes "</g>\n" ++ (rows_text (below top 740) rows
    ++ notes_text (rows_end (below top 740) rows) s l)))

-- where it ends
unfoldable pub layout_end : ℕ → Segment → MessageLayout → ℕ
layout_end top s l =
    below (notes_end (rows_end (below top 740) (rows_of s.message.now l)) s l) 160

-- the same, if there is one
abbrev pub layout_text_of : ℕ → Segment → Option MessageLayout → List ℕ
layout_text_of top s (Some l) = layout_text top s l
layout_text_of top s None =
    codes "no layout, since it would pass 9223372036854775807 bytes</text>\n"

-- where it ends
abbrev pub layout_end_of : ℕ → Segment → Option MessageLayout → ℕ
layout_end_of top s (Some l) = layout_end top s l
layout_end_of top s None = below top 120

-- what a message is called
unfoldable pub begin_text : ℕ → List ℕ → List ℕ
begin_text top title =
    codes "<text x=\"200\" y=\"" ++ (decimal top ++ (codes "\" dy=\"150\" font-size=\"150\">"
    ++ (title ++ codes ": ")))

-- a message
unfoldable pub message_text : ℕ → Segment → List ℕ
message_text top s =
    begin_text top s.title.now
    ++ layout_text_of (below top 240) s
    (layout_of s.message.now.details s.message.now.elements)

-- where it ends
unfoldable pub message_end : ℕ → Segment → ℕ
message_end top s =
    layout_end_of (below top 240) s (layout_of s.message.now.details s.message.now.elements)

-- a message, if there is one
unfoldable pub segment_text : ℕ → Option Segment → List ℕ
segment_text top (Some s) = message_text top s
segment_text top None = []

-- where it ends
unfoldable pub segment_end : ℕ → Option Segment → ℕ
segment_end top (Some s) = message_end top s
segment_end top None = top

-- messages, each below the one before
abbrev pub segments_text : ℕ → List (Option Segment) → List ℕ
segments_text top [] = []
segments_text top (s ∷ segments) =
    segment_text top s ++ segments_text (segment_end top s) segments

-- where they end
abbrev pub segments_end : ℕ → List (Option Segment) → ℕ
segments_end top [] = top
segments_end top (s ∷ segments) = segments_end (segment_end top s) segments

-- the type of keys
unfoldable pub key_line : TypeDetail → List ℕ
key_line key =
    number_of key.size (codes "byte") ++ (codes ", alignment " ++ (decimal key.alignment
    ++ (codes ", " ++ key.type_name)))

-- what stands above the type of keys
abbrev pub keys_said : List ℕ
keys_said = codes "no messages, but values with keys of this type:"

-- that there are no messages, and the type of keys
unfoldable pub keyed_text : ℕ → TypeDetail → List ℕ
keyed_text top key =
    written NOTE top keys_said ++ written NOTE (written_end NOTE top keys_said) (key_line key)

-- where it ends
unfoldable pub keyed_end : ℕ → TypeDetail → ℕ
keyed_end top key = written_end NOTE (written_end NOTE top keys_said) (key_line key)

-- that there are no messages, and the type of keys, if there are any
unfoldable pub exchange_text : ℕ → Exchange → List ℕ
exchange_text top Event = written NOTE top (codes "no messages")
exchange_text top (Blackboard key) = keyed_text top key
exchange_text top other = []

-- where it ends
unfoldable pub exchange_end : ℕ → Exchange → ℕ
exchange_end top Event = written_end NOTE top (codes "no messages")
exchange_end top (Blackboard key) = keyed_end top key
exchange_end top other = top

-- the name of a service and its pattern
unfoldable pub heading_text : List ℕ → List ℕ → List ℕ
heading_text name pattern = name ++ (codes " (" ++ (pattern ++ codes ")"))

-- the same, of a service
abbrev pub heading_of : Description → List ℕ
heading_of d = heading_text d.name (pattern_word d.kind)

-- where messages begin
abbrev pub messages_top : Description → ℕ
messages_top d = below (written_end NAME 150 (heading_of d)) 120

-- what is drawn: the name of a service, and below it its messages or the type of its keys
unfoldable pub sheet_text : Description → List (Option Segment) → List ℕ
sheet_text d segments =
    written NAME 150 (heading_of d)
    ++ (segments_text (messages_top d) segments
    ++ exchange_text (segments_end (messages_top d) segments) d.exchange)

-- where it ends
unfoldable pub sheet_end : Description → List (Option Segment) → ℕ
sheet_end d segments = exchange_end (segments_end (messages_top d) segments) d.exchange

-- the begin of a document of this height
unfoldable pub open_text : ℕ → List ℕ
open_text height =
    codes "<svg xmlns=\"http://www.w3.org/2000/svg\" viewBox=\"0 0 7600 " ++ (decimal height
    ++ (codes "\" width=\"760\" role=\"img\" aria-labelledby=\"title description\""
    ++ codes " font-family=\"sans-serif\" font-size=\"130\" class=\"ink\">\n"))

-- the title of the document
unfoldable pub title_text : List ℕ → List ℕ → List ℕ
title_text name pattern =
    codes "<title id=\"title\">" ++ (escaped name ++ (codes " (" ++ (pattern
    ++ codes ")</title>\n")))

-- how many bytes lie in a span, and from where on
unfoldable pub span_text : Range ℕ → List ℕ
span_text s =
    number_of (s.end - s.start) (codes "byte") ++ (codes " at offset " ++ decimal s.start)

-- how many elements there are, and from where on
unfoldable pub payload_text : ℕ → ℕ → List ℕ
payload_text elements offset =
    codes ", a payload of " ++ (number_of elements (codes "element") ++ (codes " at offset "
    ++ (decimal offset ++ codes ".")))

-- where the parts of a message of this name lie
unfoldable pub located_text : List ℕ → MessageLayout → List ℕ
located_text title l =
    codes "A " ++ (title ++ (codes " of " ++ (number_of l.size (codes "byte")
    ++ (codes ": a header of " ++ (span_text l.header ++ (codes ", a user header of "
    ++ (span_text l.user_header ++ payload_text l.elements l.payload.start)))))))

-- the same, if it has a layout
abbrev pub summary_of : List ℕ → Option MessageLayout → List ℕ
summary_of title None = codes "A " ++ (title ++ codes " without a layout.")
summary_of title (Some l) = located_text title l

-- the same, of a message
unfoldable pub summary_text : List ℕ → Message → List ℕ
summary_text title m = summary_of title (layout_of m.details m.elements)

-- that there are values with keys of this size
unfoldable pub keys_text : ℕ → List ℕ
keys_text size =
    codes "No messages, but values with keys of " ++ (number_of size (codes "byte")
    ++ codes ".")

-- what is exchanged
unfoldable pub said_of : Exchange → List ℕ
said_of (PublishSubscribe message) = summary_text (codes "message") message
said_of (RequestResponse request response) =
    summary_text (codes "request") request
    ++ (codes " " ++ summary_text (codes "response") response)
said_of Event = codes "No messages."
said_of (Blackboard key) = keys_text key.size

-- what the picture shows, for those who have it read to them
unfoldable pub description_text : Exchange → List ℕ
description_text exchange =
    codes "<desc id=\"description\">" ++ (said_of exchange ++ codes "</desc>\n")

-- the colors, and the page
unfoldable pub page_text : ℕ → List ℕ
page_text height =
    STYLE.now ++ (codes "<rect class=\"page\" width=\"7600\" height=\"" ++ (decimal height
    ++ codes "\"/>\n"))

-- the picture of a service with these messages
unfoldable pub svg_text : Description → List (Option Segment) → List ℕ
svg_text d segments =
    let height = below (sheet_end d segments) 100 in
    open_text height ++ (title_text d.name (pattern_word d.kind) ++ (description_text d.exchange
    ++ (page_text height ++ (sheet_text d segments ++ codes "</svg>\n"))))

-- the text is the picture of a service
abbrev pub IsPicture : Description → List ℕ → Type 0
IsPicture d text =
    (segments : List (Option Segment)) × AreSegments segments d.exchange d.config.defaults
    × (text ≡ svg_text d segments)
