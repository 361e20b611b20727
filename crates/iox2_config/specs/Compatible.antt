-- Which openers may use a service's messages, and why others may not.
use Rattle.std.specs.Prelude.{◌≡◌, ◌≢◌, ◌≤◌, Option, Some, None}
use Rattle.iox2_config.specs.TypeDetailParts.{TypeDetailParts}
use Rattle.iox2_config.specs.declared.types.incompatibility.Difference.{Difference}
use Rattle.iox2_config.specs.declared.types.incompatibility.Difference.TheVariants as difference
use Rattle.iox2_config.specs.declared.types.incompatibility.Incompatibility.{Incompatibility}
use Rattle.iox2_config.specs.declared.types.incompatibility.Incompatibility.TheVariants as incompatibility
use Rattle.iox2_config.specs.declared.types.message_details.MessageTypeDetails.{MessageTypeDetails}

-- one type of an opener suits that of the service: it is
-- the same but for its alignment, which may be smaller
pub record Suits (opener service : TypeDetailParts) : Type 0 where
  pub type_name : opener.type_name ≡ service.type_name
  pub variant : opener.variant ≡ service.variant
  pub size : opener.size ≡ service.size
  pub alignment : opener.alignment ≤ service.alignment

-- the headers are the same, and the other types of the opener suit those of the service
pub record Compatible (opener service : MessageTypeDetails) : Type 0 where
  pub header : opener.header ≡ service.header
  pub user_header : Suits opener.user_header service.user_header
  pub payload : Suits opener.payload service.payload

-- a type of an opener differs from that of the service, and in this first: the name is looked at
-- first, then the variant, then the size, and then whether the alignment suits
abbrev pub DiffersIn : Difference → TypeDetailParts → TypeDetailParts → Type 0 → Type 0
DiffersIn difference.Name opener service Aligned = opener.type_name ≢ service.type_name
DiffersIn difference.Variant opener service Aligned =
    (opener.type_name ≡ service.type_name) × (opener.variant ≢ service.variant)
DiffersIn difference.Size opener service Aligned =
    (opener.type_name ≡ service.type_name) × (opener.variant ≡ service.variant)
    × (opener.size ≢ service.size)
DiffersIn difference.Alignment opener service Aligned =
    (opener.type_name ≡ service.type_name) × (opener.variant ≡ service.variant)
    × (opener.size ≡ service.size) × (¬ Aligned)

-- a type does not suit, and for this first
abbrev pub IsUnsuited : Difference → TypeDetailParts → TypeDetailParts → Type 0
IsUnsuited first opener service =
    DiffersIn first opener service (opener.alignment ≤ service.alignment)

-- the first cause for which an opener may not use a service's messages, or none where it may: the
-- header is looked at first, then the user header, then the payload
abbrev pub FindsIncompatibility : MessageTypeDetails → MessageTypeDetails → Option Incompatibility
    → Type 0
FindsIncompatibility opener service None = Compatible opener service
FindsIncompatibility opener service (Some (incompatibility.Header first)) =
    DiffersIn first opener.header service.header
    (opener.header.alignment ≡ service.header.alignment)
FindsIncompatibility opener service (Some (incompatibility.UserHeader first)) =
    (opener.header ≡ service.header) × IsUnsuited first opener.user_header service.user_header
FindsIncompatibility opener service (Some (incompatibility.Payload first)) =
    (opener.header ≡ service.header) × Suits opener.user_header service.user_header
    × IsUnsuited first opener.payload service.payload

-- details are compatible to themselves
abbrev pub IsCompatibleToItself : Type 0
IsCompatibleToItself = (details : MessageTypeDetails) → Compatible details details

-- what is compatible to something compatible is compatible
abbrev pub IsCompatibleThrough : Type 0
IsCompatibleThrough =
    (first second third : MessageTypeDetails) → Compatible first second → Compatible second third
    → Compatible first third

-- details that are compatible both ways are equal
abbrev pub AreEqualBothWays : Type 0
AreEqualBothWays = (one other : MessageTypeDetails) → Compatible one other → Compatible other one
    → one ≡ other
