-- Where a byte of a text stands.
use Rattle.std.specs.Prelude.{ℕ, ◌+◌, ◌==◌, if◌then◌else◌, List, [], ◌∷◌, count_by}
use Rattle.toml.specs.Parse.{skip_bom}
use Rattle.toml_positions.specs.declared.position.Position.{Position}

-- the column that follows some bytes, of which the first is in column n
abbrev pub column_after : ℕ → List ℕ → ℕ
column_after n [] = n
column_after n (c ∷ cs) = if c == 10 then column_after 1 cs else column_after (n + 1) cs

-- The position that follows the first bytes of a text. Lines and columns are counted from 1, and
-- columns in bytes, without a byte order mark.
abbrev pub position_after : List ℕ → Position
position_after text = record {
  line = count_by (λ c. c == 10) text + 1;
  column = column_after 1 (skip_bom text);
}
