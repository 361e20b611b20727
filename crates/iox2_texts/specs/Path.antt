-- Paths and file names.
use Rattle.std.specs.Prelude.{◌≡◌, ◌≢◌, ℕ, List, [], ◌++◌, ◌<◌, ◌≤◌, length, Contains, All, Result, Ok, Err, if◌then◌else◌, Bool, IsTrue, ◌==◌, slice_index, not, ◌&&◌, ◌||◌, ◌-◌, nat_eq}
use Rattle.std.specs.Char.{is_ascii_alphanumeric}
use Rattle.std.specs.List.{after_last, list_any}
use lib.Chars.{codes}
use Rattle.iox2_texts.specs.Name.{IsAllowed}
use Rattle.iox2_texts.specs.declared.bounded.SemanticStringError.{SemanticStringError}
use Rattle.iox2_texts.specs.declared.bounded.SemanticStringError.TheVariants.{InvalidContent, ExceedsMaximumLength}

-- the byte `/`
abbrev pub is_slash : ℕ → Bool
is_slash b = b == 47

-- not empty, without `/`, and neither `.` nor `..`
abbrev pub IsPlain : List ℕ → Type 0
IsPlain bytes = (1 ≤ length bytes) × (¬ (Contains bytes 47)) × (bytes ≢ codes ".")
    × (bytes ≢ codes "..")

-- what stands after the last `/` is plain; where there is no `/`, all is
abbrev pub EndsPlain : List ℕ → Type 0
EndsPlain bytes = IsPlain (after_last is_slash bytes)

-- a letter, a digit or one of `-`, `.`, `:`, `_`
abbrev pub is_restricted : ℕ → Bool
is_restricted b = is_ascii_alphanumeric b || list_any (nat_eq b) (codes "-.:_")

-- such letters, digits and signs alone, at least one, and neither `.` nor `..`
abbrev pub IsRestricted : List ℕ → Type 0
IsRestricted bytes =
    (1 ≤ length bytes) × All (λ b. IsTrue (is_restricted b)) bytes × (bytes ≢ codes ".")
    × (bytes ≢ codes "..")

-- a text of at most `n` bytes that is a restricted name
abbrev pub IsRestrictedName : ℕ → List ℕ → Type 0
IsRestrictedName n bytes = IsAllowed IsRestricted n bytes

-- whether a `/` is needed before an entry: the path is neither empty nor ends in one
abbrev pub needs_slash : List ℕ → Bool
needs_slash path = not (length path == 0) && not (slice_index path (length path - 1) == 47)

-- the path followed by the entry, with one `/` between where it is needed
abbrev pub join : List ℕ → List ℕ → List ℕ
join path entry = path ++ (if needs_slash path then codes "/" else []) ++ entry

-- what joining two texts answers
abbrev pub MakesJoined : List ℕ → List ℕ → Result (List ℕ) SemanticStringError → Type 0
MakesJoined path entry (Ok joined) = (joined ≡ join path entry) × (length (join path entry) ≤ 255)
MakesJoined path entry (Err ExceedsMaximumLength) = 255 < length (join path entry)
MakesJoined path entry (Err InvalidContent) = ⊥
