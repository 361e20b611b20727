-- How deep the tables and arrays of a file are in one another.
use Rattle.std.specs.Prelude.{◌≡◌, ℕ, ◌+◌, ◌<◌, ◌≤◌, ◌||◌, ◌&&◌, ◌==◌, Bool, true, false, not, nat_le, nat_lt, if◌then◌else◌, List, [], ◌∷◌, Option, Some, None, option_map, length}
use Rattle.iox2_config_file.specs.declared.depth.Inside.{Inside}
use Rattle.iox2_config_file.specs.declared.depth.Inside.TheVariants as inside
use Rattle.iox2_config_file.specs.declared.depth.Mark.{Mark}
use Rattle.iox2_config_file.specs.declared.depth.Mark.TheVariants as mark
use Rattle.iox2_config_file.specs.declared.depth.Nesting.{Nesting}
use Rattle.iox2_config_file.specs.declared.depth.Position.{Position}
use Rattle.iox2_config_file.specs.declared.depth.Position.TheVariants as position
use Rattle.iox2_config_file.specs.declared.depth.Scan.{Scan}

-- what a byte begins: a comment (`#`), a text (`"`, `'`), or neither
abbrev pub begun : ℕ → Inside
begun b =
    if b == 35 then inside.Comment
    else if b == 34 || b == 39 then inside.Quote b
    else inside.Nothing

-- a text of one line after a byte: its quote or the line's end ends it, and in one of double quotes
-- a `\` takes the next byte with it
abbrev pub on_line : ℕ → ℕ → Inside
on_line q b =
    if b == q || b == 10 then inside.Nothing
    else if b == 92 && q == 34 then inside.LineEscape q
    else inside.Line q

-- a text of many lines after a byte: three of its quotes end it
abbrev pub on_lines : ℕ → ℕ → Inside
on_lines q b =
    if b == q then inside.LinesQuote q
    else if b == 92 && q == 34 then inside.LinesEscape q
    else inside.Lines q

-- what the next byte stands in
abbrev pub follow : Inside → ℕ → Inside
follow inside.Nothing b = begun b
follow inside.Comment b = if b == 10 then inside.Nothing else inside.Comment
follow (inside.Quote q) b = if b == q then inside.TwoQuotes q else on_line q b
follow (inside.TwoQuotes q) b = if b == q then inside.Lines q else begun b
follow (inside.Line q) b = on_line q b
follow (inside.LineEscape q) b = inside.Line q
follow (inside.Lines q) b = on_lines q b
follow (inside.LinesEscape q) b = inside.Lines q
follow (inside.LinesQuote q) b = if b == q then inside.LinesTwoQuotes q else on_lines q b
follow (inside.LinesTwoQuotes q) b = if b == q then inside.LinesEnd q else on_lines q b
follow (inside.LinesEnd q) b = if b == q then inside.LinesEnd q else begun b

-- the byte stands in no text and in no comment; the end of a line does not belong to its comment
abbrev pub is_outside : Inside → ℕ → Bool
is_outside inside.Nothing b = true
is_outside inside.Comment b = b == 10
is_outside (inside.TwoQuotes q) b = not (b == q)
is_outside (inside.LinesEnd q) b = not (b == q)
is_outside _ b = false

-- without the dots of the innermost key
abbrev pub close_key : List Mark → List Mark
close_key [] = []
close_key (mark.Dot ∷ ms) = close_key ms
close_key (m ∷ ms) = m ∷ ms

-- without the innermost, where that is an array or an inline table
abbrev pub close_bracket : List Mark → List Mark
close_bracket (mark.Array ∷ ms) = ms
close_bracket (mark.Table ∷ ms) = ms
close_bracket ms = ms

-- the innermost is an array or an inline table
abbrev pub is_open : List Mark → Bool
is_open (mark.Array ∷ ms) = true
is_open (mark.Table ∷ ms) = true
is_open _ = false

-- the innermost is an inline table
abbrev pub has_table : List Mark → Bool
has_table (mark.Table ∷ ms) = true
has_table _ = false

-- one more is open, where there were fewer than 32
abbrev pub Pushes : Mark → List Mark → Bool → List Mark → Type 0
Pushes m old true new = (length old < 32) × (new ≡ m ∷ old)
Pushes m old false new = 32 ≤ length old

abbrev pub nested : Position → Mark → List Mark → Option Nesting
nested p m ms =
    if nat_lt (length ms) 32 then Some (record { position = p; marks = m ∷ ms }) else None

-- a line's key or header may stand behind the byte: white space, the line's end, or no byte of
-- ASCII, as those of a byte order mark
abbrev pub is_blank : ℕ → Bool
is_blank b = ((((b == 32 || b == 9) || b == 13) || b == 10) || b == 35) || nat_le 128 b

-- behind a closed key and the byte that closed it: after a comma an inline table has a key, and a
-- line ends where no bracket is open
abbrev pub ended : Position → List Mark → ℕ → Nesting
ended p ms b =
    if b == 44 then record {
      position = if has_table ms then position.Key else position.Value;
      marks = ms;
    }
    else if b == 10 then record { position = if is_open ms then p else position.Start; marks = ms }
    else record { position = position.Value; marks = close_bracket ms }

-- a key or a value after a byte that opens nothing: a bracket, a comma or the line's end closes the
-- innermost key
abbrev pub close : Position → List Mark → ℕ → Nesting
close p ms b =
    if ((b == 93 || b == 125) || b == 44) || b == 10 then ended p (close_key ms) b
    else record { position = p; marks = ms }

-- what is open after a byte that stands in no text and in no comment, if it is not too deep: a
-- header is one table, and ends what was open before; each dot of it or of a key is one table more,
-- and each array and each inline table is one more
abbrev pub moved : Position → List Mark → ℕ → Option Nesting
moved position.Start ms b =
    if is_blank b then Some (record { position = position.Start; marks = ms })
    else if b == 91
    then Some (record { position = position.Header; marks = mark.Header ∷ [] })
    else Some (record { position = position.Key; marks = ms })
moved position.Header ms b =
    if b == 46 then nested position.Header mark.Header ms
    else if b == 10 then Some (record { position = position.Start; marks = ms })
    else Some (record { position = position.Header; marks = ms })
moved position.Key ms b =
    if b == 46 then nested position.Key mark.Dot ms
    else if b == 61 then Some (record { position = position.Value; marks = ms })
    else Some (close position.Key ms b)
moved position.Value ms b =
    if b == 91 then nested position.Value mark.Array ms
    else if b == 123 then nested position.Key mark.Table ms
    else Some (close position.Value ms b)

-- there is room, and this is open; or there is none
abbrev pub Gives : Option Nesting → Bool → Nesting → Type 0
Gives moved true new = moved ≡ Some new
Gives moved false new = moved ≡ None

-- the state after a byte, if what is open is not too deep
abbrev pub stepped : Scan → ℕ → Option Scan
stepped s b =
    if is_outside s.inside b
    then option_map (λ n. record { inside = follow s.inside b; nesting = n })
    (moved s.nesting.position s.nesting.marks b)
    else Some (record { inside = follow s.inside b; nesting = s.nesting })

abbrev pub Steps : Scan → ℕ → Bool → Scan → Type 0
Steps old b true new = stepped old b ≡ Some new
Steps old b false new = stepped old b ≡ None

-- before the first byte
abbrev pub begin : Scan
begin = record {
  inside = inside.Nothing;
  nesting = record { position = position.Start; marks = [] };
}

-- the bytes, after so many, before the first that opens a table or an array within 32 others
abbrev pub found_from : Scan → ℕ → List ℕ → Option ℕ
found_from s before [] = None
found_from s before (b ∷ bs) =
    elim (stepped s b) [ None ↦ Some before | Some next ↦ found_from next (before + 1) bs ]

-- the same of a whole text
unfoldable pub too_deep : List ℕ → Option ℕ
too_deep bytes = found_from begin 0 bytes
