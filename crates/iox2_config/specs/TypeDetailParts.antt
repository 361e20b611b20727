-- What a contract sees of a type's details.
use Rattle.std.specs.Prelude.{◌≡◌, ℕ, List, [], IsTrue, nat_eq, ◌||◌}
use Rattle.std.specs.Bool.{OnFalse}
use Rattle.std.specs.Int.{◌∣◌, is_power_of_two}
use Rattle.iox2_config.specs.declared.types.type_detail.TypeVariant.{TypeVariant}
use Rattle.iox2_config.specs.declared.types.type_detail.TypeVariant.TheVariants.{FixedSize}

-- a type's details: variant, name, size in bytes and alignment
pub record TypeDetailParts : Type 0 where
  pub variant : TypeVariant
  pub type_name : List ℕ
  pub size : ℕ
  pub alignment : ℕ

-- the details that stand where none were given
abbrev pub default_detail : TypeDetailParts
default_detail = record { variant = FixedSize; type_name = []; size = 0; alignment = 0 }

-- an alignment is a power of two, but for that of the default details
abbrev pub IsTypeDetail : TypeDetailParts → Type 0
IsTypeDetail d = OnFalse (is_power_of_two d.alignment) (d ≡ default_detail)

-- the default details have the alignment 0, and all others a power of two
abbrev pub IsAlignment : ℕ → Type 0
IsAlignment alignment = IsTrue (nat_eq alignment 0 || is_power_of_two alignment)

-- the alignment of a type is a power of two, and its size a multiple of it
pub record IsTypeLayout (size alignment : ℕ) : Type 0 where
  pub power : IsTrue (is_power_of_two alignment)
  pub whole : alignment ∣ size
