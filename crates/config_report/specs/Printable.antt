-- Texts without control characters, so that each stands in one line.
use Rattle.std.specs.Prelude.{ℕ, false, List, ◌++◌, codes, flat_map, if◌then◌else◌, encode_utf8}
use Rattle.std.specs.Char.{is_control}
use Rattle.config_report.specs.Prelude.{chars, digits}

-- a character, or `\u{..}` with its code where it is a control character
abbrev pub printable_char : ℕ → List ℕ
printable_char c =
    if is_control c then codes "\\u{" ++ (digits 16 false c ++ codes "}") else encode_utf8 c

-- a text, each character of it so
unfoldable pub printable : List ℕ → List ℕ
printable text = flat_map printable_char (chars text)

-- the same as a line
abbrev pub printable_line : List ℕ → List ℕ
printable_line text = printable text ++ codes "\n"
