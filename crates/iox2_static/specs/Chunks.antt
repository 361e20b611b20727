-- How many chunks the holders of a data segment can have in use at once.
use Rattle.std.specs.Prelude.{◌≡◌, ℕ, ◌^◌, ◌≤◌, ◌↔◌, List, length, Option, MatchOption, nat_eq}
use Rattle.std.specs.List.{AllZip, concat, Contains, IsDistinct}

-- one list of chunk numbers for each holder, none longer than the holder's limit
abbrev pub IsHolding : List ℕ → List (List ℕ) → Type 0
IsHolding limits holding = AllZip (λ limit chunks. length chunks ≤ limit) limits holding

-- some list of c different numbers has exactly the members of the lists
abbrev pub Uses : List (List ℕ) → ℕ → Type 0
Uses holding c =
    (used : List ℕ) × (length used ≡ c) × IsDistinct nat_eq used
    × ((chunk : ℕ) → Contains used chunk ↔ Contains (concat holding) chunk)

-- some holding uses c chunks, and none uses more
abbrev pub IsGreatest : List ℕ → ℕ → Type 0
IsGreatest limits c =
    ((holding : List (List ℕ)) × IsHolding limits holding × Uses holding c)
    × ((holding : List (List ℕ)) (d : ℕ) → IsHolding limits holding → Uses holding d → d ≤ c)

-- the greatest number of chunks in use, or none where that number does not fit 64 bits
abbrev pub ReportsGreatest : List ℕ → Option ℕ → Type 0
ReportsGreatest limits answer =
    MatchOption answer ((c : ℕ) × IsGreatest limits c × (2 ^ 64 ≤ c)) (λ c. IsGreatest limits c)
