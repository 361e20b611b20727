-- What the expressions of a text write.
use Rattle.std.specs.Prelude.{ℕ, ◌-◌, zero, suc, Bool, true, false, ◌&&◌, ◌||◌, ◌==◌, nat_le, if◌then◌else◌, List, [], ◌∷◌, ◌++◌, length, take, drop, slice_index, map, bytes_eq, is_some, Option, Some, None, option_and_then, option_map}
use Rattle.toml_parser.specs.Lexical.{Read, left_bracket, first, skip_ws, skip_blank}
use Rattle.toml_parser.specs.Strings.{Key}
use Rattle.toml.specs.Data.{Data, get, table}
use Rattle.toml.specs.Tables.{Definition, Expression, key_value}
use Rattle.toml.specs.Parse.{line, parse_document, skip_bom}
use Rattle.toml_positions.specs.Position.{position_after}
use Rattle.toml_positions.specs.declared.position.Position.{Position}
use Rattle.toml_positions.specs.declared.position.KeyPath.{KeyPath}
use Rattle.toml_positions.specs.declared.position.Written.{Written as Held}
use Rattle.toml_parser.specs.Reading.{path_view as keys_view}

-- all parts of a key
abbrev pub parts : Key → List (List ℕ)
parts key = key.0 ++ key.1 ∷ []

-- what stands with a key is a value, and so the expression is no header
abbrev pub is_pair : Definition → Bool
is_pair (key_value d) = true
is_pair _ = false

-- the key of an expression, and whether it is a pair
abbrev pub seen : Expression → Key × Bool
seen e = (e.0, is_pair e.1)

-- the text from the key of an expression on: past the brackets of a header
abbrev pub past_brackets : List ℕ → List ℕ
past_brackets text =
    if first text == left_bracket
    then
    (if slice_index text 1 == left_bracket then skip_ws (drop 2 text) else skip_ws (drop 1 text))
    else text

-- an expression that was read: how many bytes stand before its key, the path of its key, and
-- whether it is a pair
pub record Written : Type 0 where
  pub before : ℕ
  pub path : List (List ℕ)
  pub pair : Bool

abbrev pub written : ℕ → List (List ℕ) → Bool → Written
written before path pair = record { before = before; path = path; pair = pair }

-- the same, as the code holds it
abbrev pub written_view : Held → Written
written_view w = written w.before (keys_view w.path.items) w.pair

-- The path of a key below a header. The key of a header begins at the root.
abbrev pub path_below : List (List ℕ) → Key × Bool → List (List ℕ)
path_below header (key, pair) = if pair then header ++ parts key else parts key

-- the header in which the next expression stands
abbrev pub header_after : List (List ℕ) → Key × Bool → List (List ℕ)
header_after header (key, pair) = if pair then header else parts key

-- an expression of a text, which is written from here on, and those below it
abbrev written_from : List ℕ → List (List ℕ) → List ℕ
    → (List (List ℕ) → List ℕ → List Written) → Read Expression → List Written
written_from text header start below None = []
written_from text header start below (Some (e, rest)) =
    written (length text - length (past_brackets start)) (path_below header (seen e)) (seen e).1
    ∷ below (header_after header (seen e)) rest

-- the expressions, at most n, of what is left of a text below a header
unfoldable pub written_below : List ℕ → ℕ → List (List ℕ) → List ℕ → List Written
written_below text zero header left = []
written_below text (suc n) header left =
    written_from text header (skip_blank left) (written_below text n) (line (skip_blank left))

-- all expressions of a text
abbrev pub written_in : List ℕ → List Written
written_in text = written_below text (suc (length text)) [] (skip_bom text)

-- two paths agree as far as both go
abbrev pub agree : List (List ℕ) → List (List ℕ) → Bool
agree (k ∷ ks) (l ∷ ls) = bytes_eq k l && agree ks ls
agree _ _ = true

-- An expression writes the paths through which its own leads. A pair also writes those that lead
-- through its own and are in its value.
abbrev pub writes : List (List ℕ) → Bool → List (List ℕ) → Bool
writes keys pair path = agree keys path && (pair || nat_le (length path) (length keys))

-- the position of the first of some expressions that writes a path
abbrev pub first_position : List ℕ → List (List ℕ) → List Written → Option Position
first_position text path [] = None
first_position text path (w ∷ ws) =
    if writes w.path w.pair path then Some (position_after (take w.before text))
    else first_position text path ws

-- what is at a path of keys
abbrev pub value_at : List (List ℕ) → Option Data → Option Data
value_at [] found = found
value_at (key ∷ keys) found = value_at keys (option_and_then (get key) found)

-- the text is TOML that has something at the path
abbrev pub has_path : List ℕ → List (List ℕ) → Bool
has_path text path = is_some (value_at path (option_map table (parse_document text)))

-- the position where a path that a text has is first written
abbrev pub position_in : List ℕ → List (List ℕ) → Option Position
position_in text path =
    if has_path text path then first_position text path (written_in text) else None

-- the path of a key of a table
abbrev pub path_view : KeyPath → List (List ℕ)
path_view p = map (λ k. k.now) p.table.now ++ p.key.now ∷ []
