-- Descriptions of services.
use Rattle.std.specs.Prelude.{◌≡◌, ℕ, List, [], Result, Ok, Err}
use Rattle.iox2_texts.specs.Pair.{Pair}
use Rattle.iox2_config.specs.declared.hash.service_hash.ServiceHashError.{ServiceHashError}
use Rattle.iox2_config.specs.Hashing.{hash_input, MakesHash}
use Rattle.iox2_static.specs.declared.static_config.messaging_pattern.MessagingPattern.{MessagingPattern}
use Rattle.iox2_static.specs.MessagingPattern.{kind_of}

-- what is fixed of a service
pub record Description : Type 0 where
  pub name : List ℕ
  pub id : ℕ
  pub hash : List ℕ
  pub attributes : List Pair
  pub pattern : MessagingPattern

-- the description of a service without attributes, or the error of its hash text
abbrev pub Describes : (List ℕ → List ℕ) → (List ℕ → Type 0) → List ℕ → ℕ → MessagingPattern
    → Result Description ServiceHashError → Type 0
Describes meaning may_refuse name id pattern (Ok d) =
    MakesHash meaning may_refuse (hash_input (kind_of pattern) name) (Ok d.hash)
    × (d ≡ record { name = name; id = id; hash = d.hash; attributes = []; pattern = pattern })
Describes meaning may_refuse name id pattern (Err e) =
    MakesHash meaning may_refuse (hash_input (kind_of pattern) name) (Err e)
