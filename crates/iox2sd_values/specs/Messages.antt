-- What a caller says of the parts of a message, where they lie, and which openers may use them.
use Rattle.std.specs.Int.{is_power_of_two}
use Rattle.std.specs.Prelude.{◌≡◌, ℕ, List, [], Option, Some, None, Result, Ok, Err, IsTrue, IsUtf8, ◌^◌, ◌<◌, ◌≤◌}
use Rattle.iox2sd_values.specs.Prelude.{Status, code, end_code, OfGiven, Reading, Returns, OfNumber, TypeDetailParts}
use Rattle.iox2_config.specs.TypeDetails.{detail, message, MakesDetail}
use Rattle.iox2_config.specs.declared.types.message_details.MessageTypeDetails.{MessageTypeDetails}
use Rattle.iox2_config.specs.declared.types.type_detail.TypeDetailError.{TypeDetailError}
use Rattle.iox2_config.specs.declared.types.type_detail.TypeDetailError.TheVariants.{Name, AlignmentNotPowerOfTwo}
use Rattle.iox2_config.specs.declared.types.type_detail.TypeVariant.{TypeVariant}
use Rattle.iox2_config.specs.declared.types.type_detail.TypeVariant.TheVariants.{FixedSize, Dynamic}
use Rattle.iox2_texts.specs.declared.bounded.StringModificationError.TheVariants.{InsertWouldExceedCapacity, InvalidCharacter}
use Rattle.iox2sd_values.specs.declared.messages.Details.{Details}
use Rattle.iox2sd_values.specs.declared.messages.Fault.{Fault}
use Rattle.iox2sd_values.specs.declared.messages.Part.{Part}
use Rattle.iox2sd_values.specs.declared.messages.Which.{Which}
use Rattle.iox2sd_values.specs.declared.messages.Which.TheVariants as which
use Rattle.iox2sd_common.specs.declared.status.Status.TheVariants as status
use Rattle.iox2_config.specs.Blocks.{HoldsEverywhere}
use Rattle.iox2_config.specs.Layout.{sample_size, payload_offset, places_in}
use Rattle.iox2_config.specs.SampleLayoutParts.{SampleLayoutParts}
use Rattle.iox2_config.specs.declared.types.layout.Places.{Places}
use Rattle.iox2sd_values.specs.declared.messages.LayoutAnswer.{LayoutAnswer}
use Rattle.iox2sd_values.specs.declared.messages.PlacesAnswer.{PlacesAnswer}
use Rattle.iox2_config.specs.Compatible.{FindsIncompatibility}
use Rattle.iox2_config.specs.declared.types.incompatibility.Difference.{Difference}
use Rattle.iox2_config.specs.declared.types.incompatibility.Difference.TheVariants as difference
use Rattle.iox2_config.specs.declared.types.incompatibility.Incompatibility.{Incompatibility}
use Rattle.iox2_config.specs.declared.types.incompatibility.Incompatibility.TheVariants as incompatibility
use Rattle.iox2sd_values.specs.declared.messages.PartAnswer.{PartAnswer}

-- the number of a variant
abbrev pub variant_number : TypeVariant → ℕ
variant_number FixedSize = 0
variant_number Dynamic = 1

-- the variant of a number
abbrev pub ReadsVariant : ℕ → Option TypeVariant → Type 0
ReadsVariant number read = OfNumber variant_number number read

-- the type of a part whose variant is this
abbrev pub part_facts : Part → TypeVariant → TypeDetailParts
part_facts part variant = detail variant part.name.now part.size part.alignment

-- the number is that of a variant, with which the rest holds
abbrev pub WithVariant : Part → (TypeVariant → Type 0) → Type 0
WithVariant part Rest = (variant : TypeVariant) × ReadsVariant part.variant (Some variant)
    × Rest variant

-- what making the type of a part answers, where its name is UTF-8
abbrev pub MakesPart : Part → Result TypeDetailParts TypeDetailError → Type 0
MakesPart part made =
    WithVariant part
    (λ variant. IsUtf8 part.name.now × MakesDetail (part_facts part variant) made)

-- the type of a part, or why it has none: the variant is looked at first, then the name, and then
-- the alignment
abbrev pub ReadsPart : Part → Result TypeDetailParts Status → Type 0
ReadsPart part (Ok made) = MakesPart part (Ok made)
ReadsPart part (Err status.UnknownVariant) = ReadsVariant part.variant None
ReadsPart part (Err status.NotUtf8) = WithVariant part (λ variant. ¬ (IsUtf8 part.name.now))
ReadsPart part (Err status.TooLong) = MakesPart part (Err (Name InsertWouldExceedCapacity))
ReadsPart part (Err status.IllegalByte) = MakesPart part (Err (Name InvalidCharacter))
ReadsPart part (Err status.BadAlignment) = MakesPart part (Err AlignmentNotPowerOfTwo)
ReadsPart part (Err _) = ⊥

-- whether the type of a part is valid, where there is a part
abbrev pub ChecksPart : List Part → ℕ → Type 0
ChecksPart parts answer =
    OfGiven (code status.Null) (λ part. Returns end_code (ReadsPart part)) parts answer

-- the same of this part of a message
abbrev pub ReadsPartOf : Part → Which → Result TypeDetailParts Fault → Type 0
ReadsPartOf part which (Ok made) = ReadsPart part (Ok made)
ReadsPartOf part which (Err fault) = (fault.part ≡ which) × ReadsPart part (Err fault.status)

-- the types of all parts, or what is wrong with the first invalid one
abbrev pub ReadsDetails : Details → Result MessageTypeDetails Fault → Type 0
ReadsDetails d made =
    Reading (ReadsPartOf d.header which.Header) (λ f. made ≡ Err f) (λ header.
    Reading (ReadsPartOf d.user_header which.UserHeader) (λ f. made ≡ Err f) (λ user_header.
    Reading (ReadsPartOf d.payload which.Payload) (λ f. made ≡ Err f) (λ payload.
    made ≡ Ok (message header user_header payload))))

-- a part without its name and its variant
abbrev pub shape : Part → TypeDetailParts
shape part = detail FixedSize [] part.size part.alignment

-- the alignment of a part is a power of two
abbrev pub HasPower : Part → Type 0
HasPower part = IsTrue (is_power_of_two part.alignment)

-- the shape of a part whose alignment is a power of two
abbrev pub ShapesPart : Part → Option TypeDetailParts → Type 0
ShapesPart part (Some made) = (made ≡ shape part) × HasPower part
ShapesPart part None = ¬ (HasPower part)

-- all alignments are powers of two
pub record HavePowers (d : Details) : Type 0 where
  pub header : HasPower d.header
  pub user_header : HasPower d.user_header
  pub payload : HasPower d.payload

-- the details of a message without the names and the variants
abbrev pub shapes : Details → MessageTypeDetails
shapes d = message (shape d.header) (shape d.user_header) (shape d.payload)

-- the shapes of all parts, where all alignments are powers of two
abbrev pub ShapesDetails : Details → Option MessageTypeDetails → Type 0
ShapesDetails d (Some made) = (made ≡ shapes d) × HavePowers d
ShapesDetails d None = ¬ (HavePowers d)

-- the answer with this room, or with the cause for which there is none
abbrev pub layout_answer : Result SampleLayoutParts Status → LayoutAnswer
layout_answer (Ok room) =
    record { status = code status.Done; size = room.size; alignment = room.alignment }
layout_answer (Err cause) = record { status = code cause; size = 0; alignment = 0 }

-- the room for a message of n elements, which holds its parts for the service and each compatible
-- opener; or why there
-- is none
abbrev pub LaysOut : Details → ℕ → Result SampleLayoutParts Status → Type 0
LaysOut d n (Ok room) =
    HavePowers d × (sample_size (shapes d) n < 2 ^ 63) × HoldsEverywhere (shapes d) n room.size
    × (room ≡ record { size = sample_size (shapes d) n; alignment = d.header.alignment })
LaysOut d n (Err status.BadAlignment) = ¬ (HavePowers d)
LaysOut d n (Err status.TooLarge) = HavePowers d × (2 ^ 63 ≤ sample_size (shapes d) n)
LaysOut d n (Err _) = ⊥

-- the answer with the room, where there are details
abbrev pub ReportsLayout : List Details → ℕ → LayoutAnswer → Type 0
ReportsLayout details n answer =
    OfGiven (layout_answer (Err status.Null)) (λ d. Returns layout_answer (LaysOut d n)) details
    answer

-- the answer with these places, or with the cause for which there are none
abbrev pub places_answer : Result Places Status → PlacesAnswer
places_answer (Ok places) =
    record { status = code status.Done; user_header = places.user_header; payload = places.payload }
places_answer (Err cause) = record { status = code cause; user_header = 0; payload = 0 }

-- the places behind a header at this place, or why there are none
abbrev pub PlacesOf : Details → ℕ → Result Places Status → Type 0
PlacesOf d header (Ok places) =
    HavePowers d × (payload_offset (shapes d) header < 2 ^ 64)
    × (places ≡ places_in (shapes d) header)
PlacesOf d header (Err status.BadAlignment) = ¬ (HavePowers d)
PlacesOf d header (Err status.TooLarge) = HavePowers d × (2 ^ 64 ≤ payload_offset (shapes d) header)
PlacesOf d header (Err _) = ⊥

-- the answer with the places, where there are details
abbrev pub ReportsPlaces : List Details → ℕ → PlacesAnswer → Type 0
ReportsPlaces details header answer =
    OfGiven (places_answer (Err status.Null)) (λ d. Returns places_answer (PlacesOf d header))
    details answer

-- the number of a part
abbrev pub part_number : Which → ℕ
part_number which.Header = 0
part_number which.UserHeader = 1
part_number which.Payload = 2

-- the answer on a fault of this side
abbrev pub part_answer : Fault → ℕ → PartAnswer
part_answer fault side =
    record { status = code fault.status; side = side; part = part_number fault.part }

-- what is wrong where a header is another
abbrev pub other : Difference → Status
other difference.Name = status.OtherName
other difference.Variant = status.OtherVariant
other difference.Size = status.OtherSize
other difference.Alignment = status.OtherAlignment

-- what is wrong where a type of another part does not suit
abbrev pub unsuited : Difference → Status
unsuited difference.Alignment = status.GreaterAlignment
unsuited first = other first

-- what is wrong of which part of an opener that is not compatible
abbrev pub fault_of : Incompatibility → Fault
fault_of (incompatibility.Header first) = record { part = which.Header; status = other first }
fault_of (incompatibility.UserHeader first) =
    record { part = which.UserHeader; status = unsuited first }
fault_of (incompatibility.Payload first) = record { part = which.Payload; status = unsuited first }

-- the answer on the first cause for which an opener is not compatible, or on none
abbrev pub compared : Option Incompatibility → PartAnswer
compared None = record { status = code status.Done; side = 0; part = 0 }
compared (Some first) = part_answer (fault_of first) 0

-- the answer on details of an opener and of a service
abbrev pub Compares : MessageTypeDetails → MessageTypeDetails → PartAnswer → Type 0
Compares opener service answer = Returns compared (FindsIncompatibility opener service) answer

-- the answer on both details: those of the opener are looked at first
abbrev pub ComparesDetails : Details → Details → PartAnswer → Type 0
ComparesDetails o s answer =
    Reading (ReadsDetails o) (λ fault. answer ≡ part_answer fault 0) (λ opener.
    Reading (ReadsDetails s) (λ fault. answer ≡ part_answer fault 1) (λ service.
    Compares opener service answer))

-- the answer where there are no details of this side
abbrev pub null_answer : ℕ → PartAnswer
null_answer side = part_answer (record { part = which.Header; status = status.Null }) side

-- the answer where both are given
abbrev pub ReportsCompatible : List Details → List Details → PartAnswer → Type 0
ReportsCompatible openers services answer =
    OfGiven (null_answer 0) (λ o. OfGiven (null_answer 1) (ComparesDetails o) services) openers
    answer
