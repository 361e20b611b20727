-- The making of details.
use Rattle.std.specs.Prelude.{◌≡◌, ℕ, List, [], ◌∷◌, Result, Ok, Err, IsTrue, ◌⊎◌}
use Rattle.std.specs.Int.{is_power_of_two}
use Rattle.iox2_texts.specs.Text.{IsTextUpTo, MakesText}
use Rattle.iox2_texts.specs.declared.bounded.StringModificationError.{StringModificationError}
use Rattle.iox2_config.specs.TypeDetailParts.{TypeDetailParts, IsTypeLayout}
use Rattle.iox2_config.specs.declared.types.message_details.MessageTypeDetails.{MessageTypeDetails}
use Rattle.iox2_config.specs.declared.types.type_detail.TypeDetailError.{TypeDetailError}
use Rattle.iox2_config.specs.declared.types.type_detail.TypeDetailError.TheVariants.{Name, AlignmentNotPowerOfTwo}
use Rattle.iox2_config.specs.declared.types.type_detail.TypeVariant.{TypeVariant}

-- the details with these parts
abbrev pub detail : TypeVariant → List ℕ → ℕ → ℕ → TypeDetailParts
detail variant type_name size alignment =
    record { variant = variant; type_name = type_name; size = size; alignment = alignment }

-- the details of a message with these parts
abbrev pub message : TypeDetailParts → TypeDetailParts → TypeDetailParts → MessageTypeDetails
message header user_header payload =
    record { header = header; user_header = user_header; payload = payload }

-- a name of a type
abbrev pub IsTypeName : List ℕ → Type 0
IsTypeName name = IsTextUpTo 256 name

-- what the making of details from their parts answers: the name is looked at before the alignment
abbrev pub MakesDetail : TypeDetailParts → Result TypeDetailParts TypeDetailError → Type 0
MakesDetail parts (Ok made) =
    (made ≡ parts) × IsTypeName parts.type_name × IsTrue (is_power_of_two parts.alignment)
MakesDetail parts (Err (Name error)) = MakesText 256 parts.type_name (Err error)
MakesDetail parts (Err AlignmentNotPowerOfTwo) =
    IsTypeName parts.type_name × (¬ IsTrue (is_power_of_two parts.alignment))

-- a type's details are legal
pub record IsLegal (parts : TypeDetailParts) : Type 0 where
  pub type_name : IsTypeName parts.type_name
  pub layout : IsTypeLayout parts.size parts.alignment

-- what the making of a type's details answers: only the name can be refused
abbrev pub DescribesType : TypeDetailParts → Result TypeDetailParts TypeDetailError → Type 0
DescribesType parts (Ok made) = (made ≡ parts) × IsLegal parts
DescribesType parts (Err (Name error)) = MakesText 256 parts.type_name (Err error)
DescribesType parts (Err AlignmentNotPowerOfTwo) = ⊥

-- the first invalid name is refused for this cause
abbrev pub FirstRefused : List (List ℕ) → StringModificationError → Type 0
FirstRefused [] error = ⊥
FirstRefused (name ∷ names) error =
    MakesText 256 name (Err error) ⊎ (IsTypeName name × FirstRefused names error)

-- what the making of the details of a message's parts answers
abbrev pub DescribesMessage : MessageTypeDetails → Result MessageTypeDetails TypeDetailError
    → Type 0
DescribesMessage parts (Ok made) =
    (made ≡ parts) × IsLegal parts.header × IsLegal parts.user_header × IsLegal parts.payload
DescribesMessage parts (Err (Name error)) =
    FirstRefused
    (parts.header.type_name ∷ parts.user_header.type_name ∷ parts.payload.type_name
    ∷ []) error
DescribesMessage parts (Err AlignmentNotPowerOfTwo) = ⊥
