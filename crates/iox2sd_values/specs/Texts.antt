-- Whether texts are names, keys, values and paths, and which byte is wrong; the names of services,
-- and their hash texts.
use Rattle.std.specs.List.{starts_with}
use Rattle.std.specs.Prelude.{◌≡◌, ◌≢◌, ℕ, Bool, false, true, List, [], Option, Some, None, Result, Ok, Err, IsTrue, MatchBool, nat_eq, ⊤, ◌⊎◌, ◌++◌, MatchOption, IsUtf8}
use Rattle.iox2sd_values.specs.Prelude.{EndsPlain, IsAllowed, IsPlain, IsRestricted, MakesLegal, MakesName, PlaceAnswer, SemanticStringError, is_restricted, IllegalText, MakesHash, MakesPublicName, MakesServiceName, PatternKind, ReadsPattern, hash_input, sha1_text, place_answer, Reading, Refusal, Misses}
use lib.Chars.{codes}
use Rattle.iox2_texts.specs.Text.{IsTextByte}
use Rattle.iox2_texts.specs.declared.bounded.SemanticStringError.TheVariants.{InvalidContent, ExceedsMaximumLength}
use Rattle.iox2sd_common.specs.declared.status.Status.TheVariants as status
use Rattle.iox2sd_values.specs.declared.texts.Alphabet.{Alphabet}
use Rattle.iox2sd_values.specs.declared.texts.Alphabet.TheVariants as alphabet
use Rattle.iox2_texts.specs.declared.service_name.ServiceNameError.{ServiceNameError}
use Rattle.iox2_texts.specs.declared.service_name.ServiceNameError.TheVariants as error
use Rattle.iox2sd_values.specs.Refusals.{MakesOr}
use Rattle.iox2sd_values.specs.declared.refusals.Refusal.TheVariants as refusal

-- what making a path, and the name of a file, answer
abbrev pub MakesPath : List ℕ → Result (List ℕ) SemanticStringError → Type 0
MakesPath bytes made = MakesLegal (IsAllowed (λ b. ⊤) 255) 255 bytes made

abbrev pub MakesFileName : List ℕ → Result (List ℕ) SemanticStringError → Type 0
MakesFileName bytes made = MakesLegal (IsAllowed IsPlain 255) 255 bytes made

-- the byte is one of the alphabet
abbrev pub IsLegal : Alphabet → ℕ → Type 0
IsLegal alphabet.Text b = IsTextByte b
IsLegal alphabet.FileName b = IsTextByte b × (b ≢ 47)
IsLegal alphabet.Restricted b = IsTrue (is_restricted b)

-- the answer on a text of an invalid content that is not empty, by its first illegal byte
abbrev pub content_answer : Option ℕ → PlaceAnswer
content_answer (Some i) = place_answer status.IllegalByte i
content_answer None = place_answer status.NoFileName 0

-- the answer reports why the text is refused, and where the first wrong byte or the first byte too
-- many is
abbrev pub Refused : SemanticStringError → List ℕ → Alphabet → ℕ → PlaceAnswer → Type 0
Refused ExceedsMaximumLength bytes a most answer = answer ≡ place_answer status.TooLong most
Refused InvalidContent bytes a most answer =
    ((bytes ≡ []) × (answer ≡ place_answer status.Empty 0))
    ⊎ ((bytes ≢ []) × (found : Option ℕ) × Misses (IsLegal a) bytes found
    × (answer ≡ content_answer found))

-- the answer on what the making gave
abbrev pub ReportsText : Result (List ℕ) SemanticStringError → List ℕ → Alphabet → ℕ → PlaceAnswer
    → Type 0
ReportsText (Ok text) bytes a most answer = answer ≡ place_answer status.Done 0
ReportsText (Err error) bytes a most answer = Refused error bytes a most answer

-- the answer reports what making a text of the bytes gives
abbrev pub ChecksText : (Result (List ℕ) SemanticStringError → Type 0) → Alphabet → ℕ → List ℕ
    → PlaceAnswer → Type 0
ChecksText Makes a most bytes answer =
    (made : Result (List ℕ) SemanticStringError) × Makes made × ReportsText made bytes a most answer

-- of a text of at most so many bytes, as names, keys and values are
abbrev pub ChecksName : ℕ → List ℕ → PlaceAnswer → Type 0
ChecksName most bytes answer = ChecksText (MakesName most bytes) alphabet.Text most bytes answer

-- of the name that a user gives to a service: the prefix is looked at first
abbrev pub ChecksUserName : List ℕ → PlaceAnswer → Type 0
ChecksUserName bytes answer =
    MatchBool (starts_with nat_eq bytes (codes "iox2://"))
    (answer ≡ place_answer status.ReservedPrefix 0) (ChecksName 255 bytes answer)

-- of the name of a service, which may be one of the system's own where the flag says so
abbrev pub ChecksAnyName : Bool → List ℕ → PlaceAnswer → Type 0
ChecksAnyName false bytes answer = ChecksUserName bytes answer
ChecksAnyName true bytes answer = ChecksName 255 bytes answer

-- of a path, of the name and the path of a file, and of a restricted name of a file
abbrev pub ChecksPath : List ℕ → PlaceAnswer → Type 0
ChecksPath bytes answer = ChecksText (MakesPath bytes) alphabet.Text 255 bytes answer

abbrev pub ChecksFileName : List ℕ → PlaceAnswer → Type 0
ChecksFileName bytes answer = ChecksText (MakesFileName bytes) alphabet.FileName 255 bytes answer

abbrev pub ChecksFilePath : List ℕ → PlaceAnswer → Type 0
ChecksFilePath bytes answer =
    ChecksText (MakesLegal (IsAllowed EndsPlain 255) 255 bytes) alphabet.Text 255 bytes answer

abbrev pub ChecksRestricted : List ℕ → PlaceAnswer → Type 0
ChecksRestricted bytes answer =
    ChecksText (MakesLegal (IsAllowed IsRestricted 64) 64 bytes) alphabet.Restricted 64 bytes answer

-- what making the name that a user gives answers, or one of the system's own where the flag says so
abbrev pub MakesAnyName : Bool → List ℕ → Result (List ℕ) ServiceNameError → Type 0
MakesAnyName false bytes made = MakesPublicName bytes made
MakesAnyName true bytes made = MakesServiceName bytes made

-- the name that bytes are, which may be one of the system's own where the flag says so, or why they
-- are none: what is no UTF-8 is reported first
abbrev pub ReadsAnyName : Bool → List ℕ → Result (List ℕ) Refusal → Type 0
ReadsAnyName internal bytes made =
    (IsUtf8 bytes × MakesOr (MakesAnyName internal bytes) (ChecksAnyName internal bytes)
    status.BadServiceName made)
    ⊎ ((¬ (IsUtf8 bytes)) × (made ≡ Err (refusal.Because status.NotUtf8)))

-- what making the system's own name that ends in the bytes answers
abbrev pub Prefixes : List ℕ → Result (List ℕ) Refusal → Type 0
Prefixes bytes (Ok name) = IsUtf8 bytes × MakesServiceName (codes "iox2://" ++ bytes) (Ok name)
Prefixes bytes (Err (refusal.Because status.NotUtf8)) = ¬ (IsUtf8 bytes)
Prefixes bytes (Err (refusal.Because status.TooLong)) =
    IsUtf8 bytes × MakesServiceName (codes "iox2://" ++ bytes) (Err error.ExceedsMaximumLength)
Prefixes bytes (Err (refusal.Because status.IllegalByte)) =
    IsUtf8 bytes × MakesServiceName (codes "iox2://" ++ bytes) (Err error.InvalidContent)
Prefixes bytes (Err _) = ⊥

-- what making the hash text of a pattern and a name answers, by SHA-1, which refuses no input
abbrev pub MakesText : PatternKind → List ℕ → Result (List ℕ) Refusal → Type 0
MakesText kind name (Ok text) =
    MakesHash sha1_text (λ input. ⊥) (hash_input kind name) (Ok text)
MakesText kind name (Err (refusal.Because status.IllegalHash)) =
    MakesHash sha1_text (λ input. ⊥) (hash_input kind name) (Err IllegalText)
MakesText kind name (Err _) = ⊥

-- the same of the number of a pattern and of bytes, which are read as a name
abbrev pub Hashes : Bool → ℕ → List ℕ → Result (List ℕ) Refusal → Type 0
Hashes internal pattern bytes made =
    (kind : Option PatternKind) × ReadsPattern pattern kind
    × MatchOption kind (made ≡ Err (refusal.Because status.UnknownPattern)) (λ kind.
    Reading (ReadsAnyName internal bytes) (λ r. made ≡ Err r) (λ name. MakesText kind name made))
