-- Texts with an illegal content beside a greatest length.
use Rattle.std.specs.Prelude.{ℕ, ◌<◌, ◌≤◌, List, length, Result, Ok, Err, ◌≡◌, MatchBool, nat_eq}
use Rattle.std.specs.List.{starts_with}
use Rattle.std.specs.Result.{result_map_both}
use lib.Chars.{codes}
use Rattle.iox2_texts.specs.Text.{IsTextUpTo}
use Rattle.iox2_texts.specs.declared.bounded.SemanticStringError.{SemanticStringError}
use Rattle.iox2_texts.specs.declared.bounded.SemanticStringError.TheVariants.{InvalidContent, ExceedsMaximumLength}
use Rattle.iox2_texts.specs.declared.service_name.ServiceNameError.{ServiceNameError}
use Rattle.iox2_texts.specs.declared.service_name.ServiceNameError.TheVariants as name

-- a text of at most `n` bytes that is one of those that `Allows`
abbrev pub IsAllowed : (List ℕ → Type 0) → ℕ → List ℕ → Type 0
IsAllowed Allows n bytes = IsTextUpTo n bytes × Allows bytes

-- a text of 1 to `n` bytes
abbrev pub IsName : ℕ → List ℕ → Type 0
IsName n bytes = IsAllowed (λ b. 1 ≤ length b) n bytes

-- what making a text answers whose legal contents are `Legal`, none
-- of them longer than `n`: too long is reported only of what is too
-- long, and everything else that is not legal is an invalid content
abbrev pub MakesLegal : (List ℕ → Type 0) → ℕ → List ℕ → Result (List ℕ) SemanticStringError
    → Type 0
MakesLegal Legal n bytes (Ok text) = (text ≡ bytes) × (length bytes ≤ n) × Legal bytes
MakesLegal Legal n bytes (Err ExceedsMaximumLength) = n < length bytes
MakesLegal Legal n bytes (Err InvalidContent) = (length bytes ≤ n) × (¬ (Legal bytes))

-- what making a key, a value or a name of 1 to `n` bytes answers
abbrev pub MakesName : ℕ → List ℕ → Result (List ℕ) SemanticStringError → Type 0
MakesName n bytes r = MakesLegal (IsName n) n bytes r

-- the error of a semantic string that says the same
abbrev pub semantic_of : ServiceNameError → SemanticStringError
semantic_of name.ExceedsMaximumLength = ExceedsMaximumLength
semantic_of name.InvalidContent = InvalidContent

-- what making a service name answers: as for another text of at most 255 bytes, by its own errors
abbrev pub MakesServiceName : List ℕ → Result (List ℕ) ServiceNameError → Type 0
MakesServiceName bytes r = MakesName 255 bytes (result_map_both (λ text. text) semantic_of r)

-- what making a service name from outside answers, which may not begin with `iox2://`
abbrev pub MakesPublicName : List ℕ → Result (List ℕ) ServiceNameError → Type 0
MakesPublicName bytes r =
    MatchBool (starts_with nat_eq bytes (codes "iox2://")) (r ≡ Err name.InvalidContent)
    (MakesServiceName bytes r)
