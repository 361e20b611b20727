-- What is written of how far a log was read.
use Rattle.std.specs.Prelude.{◌≡◌, ◌⊎◌, ℕ, List, ◌++◌, All, Option, codes}
use Rattle.std.specs.Fmt.{decimal}
use Rattle.std.specs.Io.KnownBytes.{Appends}
use Rattle.std.specs.List.{concat}

-- a count of lines, over what stands in the line of the terminal
abbrev pub count_text : ℕ → List ℕ
count_text lines = codes "\r" ++ decimal lines ++ codes " lines read"

-- a count, or some first bytes of one, if they are all that could be written; or a newline
abbrev pub IsCount : List ℕ → Type 0
IsCount bytes =
    ((lines : ℕ) × (left : List ℕ) × (count_text lines ≡ bytes ++ left)) ⊎ (bytes ≡ codes "\n")

-- known bytes grow by counts
abbrev pub AddsCounts : Option (List ℕ) → Option (List ℕ) → Type 0
AddsCounts old new = (counts : List (List ℕ)) × All IsCount counts × Appends old new (concat counts)
