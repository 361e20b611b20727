-- What exports answer beside a status.
use Rattle.std.specs.Prelude.{◌≡◌, ℕ, ◌<◌, ◌≤◌, Bool, true, false, if◌then◌else◌, List, [], ◌∷◌, ◌++◌, MatchResult, Result, Ok, Err, drop, length, replicate}
use Rattle.iox2sd_common.specs.Status.{code}
use Rattle.iox2sd_common.specs.declared.answers.CountAnswer.{CountAnswer}
use Rattle.iox2sd_common.specs.declared.answers.FlagAnswer.{FlagAnswer}
use Rattle.iox2sd_common.specs.declared.answers.PlaceAnswer.{PlaceAnswer}
use Rattle.iox2sd_common.specs.declared.answers.TextAnswer.{TextAnswer}
use Rattle.iox2sd_common.specs.declared.status.Status.{Status}
use Rattle.iox2sd_common.specs.declared.status.Status.TheVariants as status

-- the status with the place of which it speaks
abbrev pub place_answer : Status → ℕ → PlaceAnswer
place_answer s at = record { status = code s; cause = 0; at = at }

-- the status with a number
abbrev pub count_answer : Status → ℕ → CountAnswer
count_answer s count = record { status = code s; cause = 0; count = count }

-- how many, or the status of a refusal
abbrev pub c_count : Result ℕ Status → CountAnswer
c_count (Ok n) = count_answer status.Done n
c_count (Err s) = count_answer s 0

-- yes or no, or the status of a refusal
abbrev pub flag_answer : Result Bool Status → FlagAnswer
flag_answer (Ok is_so) = record { status = code status.Done; yes = is_so }
flag_answer (Err s) = record { status = code s; yes = false }

-- the status with the length of a text
abbrev pub text_answer : Status → ℕ → TextAnswer
text_answer s n = record { status = code s; cause = 0; length = n }

-- the answer says what is so
abbrev pub Returns : {M R : Type 0} → (M → R) → (M → Type 0) → R → Type 0
Returns {M} form IsSo answer = (made : M) × IsSo made × (answer ≡ form made)

-- what is said of the struct that the caller gave, or this answer where it gave NULL
abbrev pub OfGiven : {S R : Type 0} → R → (S → R → Type 0) → List S → R → Type 0
OfGiven null Says [] answer = answer ≡ null
OfGiven null Says (given ∷ others) answer = Says given answer

-- what is said of the error that comes of this, or else of what was made
abbrev pub Reading : {A E : Type 0} → (Result A E → Type 0) → (E → Type 0) → (A → Type 0) → Type 0
Reading {A} {E} Reads Wrong Made = (read : Result A E) × Reads read × MatchResult read Made Wrong

-- the text at the front of so many bytes, and zeros after it
abbrev pub zero_padded : ℕ → List ℕ → List ℕ
zero_padded n text = text ++ drop (length text) (replicate n 0)

-- the elements stand at the front of the array, as a text at that of a buffer, or they do not fit
-- there and the array is as it was
abbrev pub Writes : {A : Type 0} → List A → List A → Bool → List A → Type 0
Writes items old true new =
    (length items ≤ length old) × (new ≡ items ++ drop (length items) old)
Writes items old false new = (length old < length items) × (new ≡ old)

-- the status of a text that fits the buffer or does not
abbrev pub fit_status : Bool → Status
fit_status fits = if fits then status.Done else status.BufferTooShort

-- the same, with the answer that reports it
abbrev pub Written : List ℕ → List ℕ → TextAnswer → List ℕ → Type 0
Written text old answer new =
    (fits : Bool) × Writes text old fits new
    × (answer ≡ text_answer (fit_status fits) (length text))

-- the text was written, or there is none for this cause and the buffer is as it was
abbrev pub ReportsText : Result (List ℕ) Status → List ℕ → TextAnswer → List ℕ → Type 0
ReportsText (Ok text) old answer new = Written text old answer new
ReportsText (Err cause) old answer new = (answer ≡ text_answer cause 0) × (new ≡ old)
