-- Hexadecimal digits with zeros in front.
use Rattle.std.specs.Prelude.{ℕ, zero, suc, ◌/◌, ◌%◌, ◌∷◌, false, List}
use Rattle.std.specs.Fmt.{digit_glyph}

-- the last k hexadecimal digits of a number, zeros in front among them, before others
unfoldable pub padded : ℕ → ℕ → List ℕ → List ℕ
padded zero n others = others
padded (suc k) n others = padded k (n / 16) (digit_glyph false (n % 16) ∷ others)
