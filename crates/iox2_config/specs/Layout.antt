-- Where the parts of a message lie, and its layout.
use Rattle.std.specs.Prelude.{ℕ, ◌+◌, ◌-◌, ◌*◌, ◌^◌, ◌<◌, List, [], ◌∷◌}
use Rattle.iox2_texts.specs.Multiple.{least_multiple}
use Rattle.iox2_config.specs.Parts.{Part}
use Rattle.iox2_config.specs.declared.types.message_details.MessageTypeDetails.{MessageTypeDetails}
use Rattle.iox2_config.specs.declared.types.layout.Places.{Places}

-- the user header lies behind the header, at the first offset that suits it
abbrev pub user_header_offset : MessageTypeDetails → ℕ → ℕ
user_header_offset d header = least_multiple (header + d.header.size) d.user_header.alignment

-- the payload lies behind the user header, at the first offset that suits it
abbrev pub payload_offset : MessageTypeDetails → ℕ → ℕ
payload_offset d header =
    least_multiple (user_header_offset d header + d.user_header.size) d.payload.alignment

-- the offsets of both
abbrev pub places_in : MessageTypeDetails → ℕ → Places
places_in d header =
    record { user_header = user_header_offset d header; payload = payload_offset d header }

-- the size of the layout of a message of n elements: enough for the largest padding between its
-- parts
abbrev pub sample_size : MessageTypeDetails → ℕ → ℕ
sample_size d n =
    least_multiple
    (d.header.size + d.user_header.size + d.user_header.alignment - 1 + d.payload.size * n
    + d.payload.alignment - 1) d.header.alignment

-- the details were given: the default ones have no alignment
pub record HaveAlignments (d : MessageTypeDetails) : Type 0 where
  pub header : 0 < d.header.alignment
  pub user_header : 0 < d.user_header.alignment
  pub payload : 0 < d.payload.alignment

-- a message with its header at this offset has an offset for its payload
pub record HasPlaces (d : MessageTypeDetails) (header : ℕ) : Type 0 where
  pub given : HaveAlignments d
  pub fits : payload_offset d header < 2 ^ 64

-- the header of a service's message, with the alignment that `reader` has for it
abbrev pub header_part : MessageTypeDetails → MessageTypeDetails → ℕ → Part
header_part service reader header =
    record {
      start = header;
      end = header + service.header.size;
      alignment = reader.header.alignment;
    }

-- its user header
abbrev pub user_header_part : MessageTypeDetails → MessageTypeDetails → ℕ → Part
user_header_part service reader header = record {
  start = user_header_offset service header;
  end = user_header_offset service header + service.user_header.size;
  alignment = reader.user_header.alignment;
}

-- its payload of n elements
abbrev pub payload_part : MessageTypeDetails → MessageTypeDetails → ℕ → ℕ → Part
payload_part service reader header n = record {
  start = payload_offset service header;
  end = payload_offset service header + service.payload.size * n;
  alignment = reader.payload.alignment;
}

-- its three parts
abbrev pub parts : MessageTypeDetails → MessageTypeDetails → ℕ → ℕ → List Part
parts service reader header n =
    header_part service reader header ∷ user_header_part service reader header
    ∷ payload_part service reader header n ∷ []

-- element i of the payload
abbrev pub element : MessageTypeDetails → MessageTypeDetails → ℕ → ℕ → Part
element service reader header i = record {
  start = payload_offset service header + i * service.payload.size;
  end = payload_offset service header + (i + 1) * service.payload.size;
  alignment = reader.payload.alignment;
}
