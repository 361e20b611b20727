-- The types of the language that may be sent without a copy.
use Rattle.std.specs.Prelude.{ℕ, List, [], ◌∷◌}
use lib.Chars.{codes}

-- what processes agree on of a type: its name, its size in bytes and its alignment
pub record PlainType : Type 0 where
  pub type_name : List ℕ
  pub size : ℕ
  pub alignment : ℕ

-- the type with these
abbrev pub plain : List ℕ → ℕ → ℕ → PlainType
plain type_name size alignment =
    record { type_name = type_name; size = size; alignment = alignment }

-- all of them
abbrev pub plain_types : List PlainType
plain_types =
    plain (codes "()") 0 1
    ∷ plain (codes "bool") 1 1
    ∷ plain (codes "i8") 1 1
    ∷ plain (codes "i16") 2 2
    ∷ plain (codes "i32") 4 4
    ∷ plain (codes "i64") 8 8
    ∷ plain (codes "u8") 1 1
    ∷ plain (codes "u16") 2 2
    ∷ plain (codes "u32") 4 4
    ∷ plain (codes "u64") 8 8
    ∷ plain (codes "isize") 8 8
    ∷ plain (codes "usize") 8 8
    ∷ []
