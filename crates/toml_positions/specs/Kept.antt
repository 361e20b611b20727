-- What is kept of a text in which positions are looked up.
use Rattle.std.specs.Prelude.{◌≡◌, ℕ, List, IsSome, map, option_map}
use Rattle.toml.specs.Parse.{parse_document}
use Rattle.toml.specs.View.{table_view}
use Rattle.toml_positions.specs.Written.{written_in, written_view}
use Rattle.toml_positions.specs.declared.position.Kept.{Kept}

-- the table that the text is, if it is TOML, and then its expressions
pub record IsKeptOf (text : List ℕ) (kept : Kept) : Type 0 where
  pub file : option_map table_view kept.file ≡ parse_document text
  pub all : IsSome (parse_document text) → map written_view kept.all.items ≡ written_in text
