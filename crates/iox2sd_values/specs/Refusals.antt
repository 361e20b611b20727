-- Why an export refuses, and where a text is refused, what its check reports.
use Rattle.std.specs.Prelude.{◌≡◌, ℕ, List, Result, Ok, Err}
use Rattle.iox2sd_values.specs.Prelude.{CountAnswer, FieldAnswer, PlaceAnswer, Status, TextAnswer, code, Written, Refusal}
use Rattle.iox2sd_values.specs.declared.refusals.Refusal.TheVariants as refusal

-- the cause is the status that the check of the text answers
abbrev pub IsCause : (PlaceAnswer → Type 0) → ℕ → Type 0
IsCause Checks cause = (checked : PlaceAnswer) × Checks checked × (cause ≡ checked.status)

-- the text that is made so, or that it is refused with this status and for what its check reports
abbrev pub MakesOr : {E : Type 0} → (Result (List ℕ) E → Type 0) → (PlaceAnswer → Type 0) → Status
    → Result (List ℕ) Refusal → Type 0
MakesOr Makes Checks s (Ok text) = Makes (Ok text)
MakesOr {E} Makes Checks s (Err r) =
    (error : E) × Makes (Err error) × (cause : ℕ) × IsCause Checks cause
    × (r ≡ refusal.OfText s cause)

-- the numbers of the status and of the cause, 0 where no text is refused
abbrev pub numbers_of : Refusal → ℕ × ℕ
numbers_of (refusal.Because s) = (code s, 0)
numbers_of (refusal.OfText s cause) = (code s, cause)

-- the answers that report it, of a place in what the caller gave
abbrev pub refused_place : Refusal → ℕ → PlaceAnswer
refused_place r at = record { status = (numbers_of r).0; cause = (numbers_of r).1; at = at }

-- of a count, of a text and of a field
abbrev pub refused_count : Refusal → CountAnswer
refused_count r = record { status = (numbers_of r).0; cause = (numbers_of r).1; count = 0 }

abbrev pub refused_text : Refusal → TextAnswer
refused_text r = record { status = (numbers_of r).0; cause = (numbers_of r).1; length = 0 }

abbrev pub refused_field : Refusal → FieldAnswer
refused_field r = record { status = (numbers_of r).0; field = 0; cause = (numbers_of r).1 }

-- the text is written, or the answer reports why there is none and the buffer is as it was
abbrev pub ReportsMade : Result (List ℕ) Refusal → List ℕ → TextAnswer → List ℕ → Type 0
ReportsMade (Ok text) old answer new = Written text old answer new
ReportsMade (Err r) old answer new = (answer ≡ refused_text r) × (new ≡ old)

-- the same of a text that is made so
abbrev pub ReportsBy : (Result (List ℕ) Refusal → Type 0) → List ℕ → TextAnswer → List ℕ → Type 0
ReportsBy Makes old answer new =
    (made : Result (List ℕ) Refusal) × Makes made × ReportsMade made old answer new
