-- Where the parts of one message lie, and how many of them the ports send.
use Rattle.std.specs.Prelude.{ℕ, ◌<◌, ◌≤◌, ◌≡◌, ◌+◌, ◌*◌, ◌^◌, List, [], ◌∷◌, codes, Option, Some, None, ◌++◌, cond, nat_eq, Bool, true, ◌&&◌, if◌then◌else◌, leb, ltb, max, min, option_copied, option_map}
use Rattle.std.specs.Borrow.{Bor}
use Rattle.iox2_config.specs.Compatible.{FindsIncompatibility}
use Rattle.iox2_config.specs.declared.types.incompatibility.Incompatibility.{Incompatibility}
use Rattle.iox2_config.specs.declared.types.incompatibility.Incompatibility.TheVariants as cause
use Rattle.iox2_config.specs.declared.types.type_detail.TypeDetail.{TypeDetail}
use Rattle.iox2_config.specs.Layout.{user_header_offset, payload_offset, sample_size}
use Rattle.iox2_config.specs.declared.types.message_details.MessageTypeDetails.{MessageTypeDetails}
use Rattle.service_drawing.specs.declared.layout.MessageLayout.{MessageLayout}
use Rattle.service_drawing.specs.declared.layout.Part.{Part}
use Rattle.service_drawing.specs.declared.layout.Part.TheVariants as part
use Rattle.iox2_config.specs.declared.config.defaults.Defaults.{Defaults}
use Rattle.iox2_static.specs.Chunks.{ReportsGreatest}
use Rattle.config_report.specs.Text.{sample_limits_of, request_limits_of, response_limits_of}
use Rattle.service_drawing.specs.declared.description.Exchange.{Exchange}
use Rattle.service_drawing.specs.declared.description.Exchange.TheVariants.{PublishSubscribe, Event, RequestResponse, Blackboard}
use Rattle.service_drawing.specs.declared.description.Message.{Message}
use Rattle.service_drawing.specs.declared.description.Segment.{Segment}
use Rattle.std.specs.Fmt.{decimal}
use Rattle.service_drawing.specs.declared.sentences.Counted.{Counted}
use Rattle.service_drawing.specs.declared.sentences.Row.{Row}
use Rattle.std.specs.declared.ops.Range.{Range}

-- this many bytes from this offset on
abbrev pub span : ℕ → ℕ → Range ℕ
span start size = record { start = start; end = start + size }

-- Where the parts of a message of n elements lie from its header on, and the padding behind each.
abbrev pub whole_layout : MessageTypeDetails → ℕ → MessageLayout
whole_layout d n =
    record {
      header = record { start = 0; end = d.header.size };
      first_gap = record { start = d.header.size; end = user_header_offset d 0 };
      user_header = span (user_header_offset d 0) d.user_header.size;
      second_gap =
          record { start = user_header_offset d 0 + d.user_header.size; end = payload_offset d 0 };
      payload = span (payload_offset d 0) (d.payload.size * n);
      spare = record { start = payload_offset d 0 + d.payload.size * n; end = sample_size d n };
      element = d.payload.size;
      elements = n;
      size = sample_size d n;
    }

-- all alignments of a message were given, and n elements take less than 2^63 bytes
abbrev pub has_layout : MessageTypeDetails → ℕ → Bool
has_layout d n =
    ltb 0 d.header.alignment && ltb 0 d.user_header.alignment && ltb 0 d.payload.alignment
    && ltb (sample_size d n) (2 ^ 63)

-- the layout of a message, if there is one
unfoldable pub layout_of : MessageTypeDetails → ℕ → Option MessageLayout
layout_of d n = if has_layout d n then Some (whole_layout d n) else None

-- the parts lie one behind the other, with the gaps between them, the payload is its elements, and
-- the room is no larger than a block of memory can be
pub record IsWhole (l : MessageLayout) : Type 0 where
  pub begins : l.header.start ≡ 0
  pub header_first : l.header.end ≤ l.user_header.start
  pub user_header : l.user_header.start ≤ l.user_header.end
  pub payload_last : l.user_header.end ≤ l.payload.start
  pub first_gap : l.first_gap ≡ record { start = l.header.end; end = l.user_header.start }
  pub second_gap : l.second_gap ≡ record { start = l.user_header.end; end = l.payload.start }
  pub elements : l.payload.end ≡ l.payload.start + l.element * l.elements
  pub spare : l.spare ≡ record { start = l.payload.end; end = l.size }
  pub inside : l.payload.end ≤ l.size
  pub limit : l.size < 2 ^ 63

-- the byte at this offset is one of them
abbrev pub IsIn : Range ℕ → ℕ → Type 0
IsIn bytes offset = (bytes.start ≤ offset) × (offset < bytes.end)

-- this is what lies at the byte
abbrev pub IsPartAt : MessageLayout → ℕ → Part → Type 0
IsPartAt l offset part.Header = IsIn l.header offset
IsPartAt l offset part.UserHeader = IsIn l.user_header offset
IsPartAt l offset (part.Element i) =
    (i < l.elements) × (l.payload.start + i * l.element ≤ offset)
    × (offset < l.payload.start + (i + 1) * l.element)
IsPartAt l offset part.Gap = (¬ IsIn l.header offset) × (¬ IsIn l.user_header offset)
    × (offset < l.payload.start)
IsPartAt l offset part.Spare = l.payload.end ≤ offset

-- what is said of an opener that may not use a message for this cause, or may
abbrev pub opener_text : Option Incompatibility → List ℕ
opener_text None = codes "the opener is compatible"
opener_text (Some (cause.Header other)) =
    codes "the opener is not compatible: its header has another alignment"
opener_text (Some (cause.UserHeader other)) =
    codes "the opener is not compatible: its user header has a greater alignment"
opener_text (Some (cause.Payload other)) =
    codes "the opener is not compatible: its payload has a greater alignment"

-- this is said of the opener of a message exactly where it has one
abbrev pub IsSaidOf : Option MessageTypeDetails → MessageTypeDetails → Option (List ℕ) → Type 0
IsSaidOf (Some opener) details (Some text) =
    (found : Option Incompatibility) × FindsIncompatibility opener details found
    × (text ≡ opener_text found)
IsSaidOf (Some opener) details None = ⊥
IsSaidOf None details said = said ≡ None

-- the same, of a message
abbrev pub IsOpenerSentence : Message → Option (List ℕ) → Type 0
IsOpenerSentence message said = IsSaidOf message.opener message.details said

-- so many ports of this name, at most, send this message, which is called so, and of one port that
-- many are in use at most
pub record IsSegmentOf (s : Segment) (title port : List ℕ) (message : Message)
    (limits : List ℕ) (most : ℕ) : Type 0 where
  pub called : s.title.now ≡ title
  pub sender : s.port.now ≡ port
  pub sent : s.message.now ≡ message
  pub chunks : ReportsGreatest limits s.chunks
  pub ports : s.ports ≡ most
  pub opener : IsOpenerSentence message (option_copied s.opener)

-- the messages that ports of this kind of exchange send
abbrev pub AreSegments : List (Option Segment) → Exchange → Defaults → Type 0
AreSegments segments (PublishSubscribe message) d =
    (s : Segment) × (segments ≡ Some s ∷ None ∷ [])
    × IsSegmentOf s (codes "message") (codes "publisher") message (sample_limits_of d)
    d.publish_subscribe.max_publishers
AreSegments segments (RequestResponse request response) d =
    (s : Segment) × (t : Segment) × (segments ≡ Some s ∷ Some t ∷ [])
    × IsSegmentOf s (codes "request") (codes "client") request (request_limits_of d)
    d.request_response.max_clients
    × IsSegmentOf t (codes "response") (codes "server") response (response_limits_of d)
    d.request_response.max_servers
AreSegments segments Event d = segments ≡ None ∷ None ∷ []
AreSegments segments (Blackboard key) d = segments ≡ None ∷ None ∷ []

-- a number of things of this name
abbrev pub number_of : ℕ → List ℕ → List ℕ
number_of n name = decimal n ++ 32 ∷ (name ++ cond (nat_eq n 1) [] (codes "s"))

-- the same, as the code has it
abbrev pub counted_text : Counted → List ℕ
counted_text c = number_of c.0 c.1.now

-- a number of bytes, where 64 bits have it
abbrev pub bytes_text : Option ℕ → List ℕ
bytes_text (Some bytes) = number_of bytes (codes "byte")
bytes_text None = codes "more than 18446744073709551615 bytes, too many"

-- the number, where 64 bits have it
unfoldable pub fitting : ℕ → Option ℕ
fitting n = if ltb n (2 ^ 64) then Some n else None

-- a number of chunks, and how large one is
unfoldable pub chunk_number : ℕ → ℕ → List ℕ
chunk_number chunks size =
    number_of chunks (codes "chunk") ++ (codes " of " ++ (number_of size (codes "byte")
    ++ codes ", "))

-- of how many ports the memory is
unfoldable pub of_all_text : List ℕ → ℕ → List ℕ
of_all_text port ports = codes ", of all " ++ (number_of ports port ++ codes ": ")

-- how many messages of this size fit in the data segment of a port, the memory that they take, and
-- that of all such ports that the service may have
unfoldable pub chunks_text : List ℕ → ℕ → ℕ → Option ℕ → List ℕ
chunks_text port ports size None = codes "more than 18446744073709551615 chunks, too many"
chunks_text port ports size (Some chunks) =
    chunk_number chunks size ++ (bytes_text (fitting ((chunks * size) * 1))
    ++ (of_all_text port ports ++ bytes_text (fitting ((chunks * size) * ports))))

-- of which port the memory is
unfoldable pub owner_text : List ℕ → List ℕ
owner_text port = codes "data segment of a " ++ (port ++ codes ": ")

-- the same, with the name of the port in front
unfoldable pub memory_text : Segment → MessageLayout → List ℕ
memory_text s l = owner_text s.port.now ++ chunks_text s.port.now s.ports l.size s.chunks

-- a part of a message, or padding: its class in the style sheet, its name, where it lies, and of a
-- part its type and that which an opener has for it, if there is one
pub record Shown : Type 0 where
  pub class : List ℕ
  pub name : List ℕ
  pub span : Range ℕ
  pub types : Option (TypeDetail × Option TypeDetail)

-- the types, as the code has them
abbrev pub types_view : Option (Bor TypeDetail × Option (Bor TypeDetail))
    → Option (TypeDetail × Option TypeDetail)
types_view (Some types) = Some (types.0.now, option_copied types.1)
types_view None = None

-- the same of a row
abbrev pub row_view : Row → Shown
row_view r =
    record {
      class = r.class.now;
      name = r.name.now;
      span = r.span.now;
      types = types_view r.types;
    }

-- a part
abbrev pub part_row : List ℕ → List ℕ → Range ℕ → TypeDetail → Option TypeDetail → Shown
part_row class name span detail opener =
    record { class = class; name = name; span = span; types = Some (detail, opener) }

-- padding
abbrev pub padding_row : Range ℕ → Shown
padding_row span =
    record { class = codes "empty"; name = codes "padding"; span = span; types = None }

-- a part is shown, and padding that has bytes
abbrev pub is_shown_as : Option (TypeDetail × Option TypeDetail) → Range ℕ → Bool
is_shown_as (Some types) span = true
is_shown_as None span = ltb span.start span.end

-- the same, of a row
abbrev pub is_shown : Shown → Bool
is_shown r = is_shown_as r.types r.span

-- the types that an opener has for the parts of a message, if there is an opener
abbrev pub opener_types : Option MessageTypeDetails → List (Option TypeDetail)
opener_types (Some o) = Some o.header ∷ Some o.user_header ∷ Some o.payload ∷ []
opener_types None = None ∷ None ∷ None ∷ []

-- the parts of a message and the padding behind each, in their order
abbrev pub rows_of : Message → MessageLayout → List Shown
rows_of m l =
    let opener = m.opener in
    part_row (codes "header") (codes "header") l.header m.details.header
    (option_map (λ (o : MessageTypeDetails). o.header) opener)
    ∷ padding_row l.first_gap
    ∷ part_row (codes "user-header") (codes "user header") l.user_header m.details.user_header
    (option_map (λ (o : MessageTypeDetails). o.user_header) opener)
    ∷ padding_row l.second_gap
    ∷ part_row (codes "payload") (codes "payload") l.payload m.details.payload
    (option_map (λ (o : MessageTypeDetails). o.payload) opener)
    ∷ padding_row l.spare ∷ []

-- how many elements are drawn one by one, the first ones: 16 at most, and none where they would be
-- too narrow
unfoldable pub apart : MessageLayout → ℕ
apart l = if leb (120 * max l.size 1) (l.element * 7200) then min l.elements 16 else 0
