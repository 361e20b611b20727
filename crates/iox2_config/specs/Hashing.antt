-- The patterns of services, and hash texts.
use Rattle.std.specs.Prelude.{◌≡◌, ◌≢◌, ℕ, ◌+◌, List, ◌∷◌, Option, Some, None, Result, Ok, Err, codes}
use Rattle.sha1.specs.Sha1.{sha1}
use Rattle.base64.specs.Engines.{url_safe_no_pad}
use Rattle.base64.specs.GeneralPurpose.{encode_of}
use Rattle.iox2_texts.specs.Path.{IsRestrictedName}
use Rattle.iox2_config.specs.declared.hash.input.PatternKind.{PatternKind}
use Rattle.iox2_config.specs.declared.hash.input.PatternKind.TheVariants.{PublishSubscribe, Event, RequestResponse, Blackboard}
use Rattle.iox2_config.specs.declared.hash.service_hash.ServiceHashError.{ServiceHashError}
use Rattle.iox2_config.specs.declared.hash.service_hash.ServiceHashError.TheVariants.{HasherFailed, IllegalText}

-- the number of a pattern
abbrev pub pattern_number : PatternKind → ℕ
pattern_number PublishSubscribe = 0
pattern_number Event = 1
pattern_number RequestResponse = 2
pattern_number Blackboard = 3

-- the pattern of a number, if there is one
abbrev pub ReadsPattern : ℕ → Option PatternKind → Type 0
ReadsPattern number (Some kind) = pattern_number kind ≡ number
ReadsPattern number None = (kind : PatternKind) → pattern_number kind ≢ number

-- the word for a pattern
abbrev pub pattern_word : PatternKind → List ℕ
pattern_word PublishSubscribe = codes "publish-subscribe"
pattern_word Event = codes "event"
pattern_word RequestResponse = codes "request-response"
pattern_word Blackboard = codes "blackboard"

-- the number of the pattern as one digit, and then the name
abbrev pub hash_input : PatternKind → List ℕ → List ℕ
hash_input kind name = (48 + pattern_number kind) ∷ name

-- the SHA-1 digest of an input in the URL-safe alphabet without padding
abbrev pub sha1_text : List ℕ → List ℕ
sha1_text input = encode_of url_safe_no_pad (sha1 input)

-- the result of making a hash text: an error of the hasher only for an input that it may refuse,
-- and else what it means by the input, or that this is not legal
abbrev pub MakesHash : (List ℕ → List ℕ) → (List ℕ → Type 0) → List ℕ
    → Result (List ℕ) ServiceHashError → Type 0
MakesHash meaning may_refuse input (Ok text) = (text ≡ meaning input)
    × IsRestrictedName 64 (meaning input)
MakesHash meaning may_refuse input (Err HasherFailed) = may_refuse input
MakesHash meaning may_refuse input (Err IllegalText) = ¬ (IsRestrictedName 64 (meaning input))

-- services that differ in pattern or name differ in what is hashed
abbrev pub HashInputsDiffer : Type 0
HashInputsDiffer =
    (j k : PatternKind) (m n : List ℕ) → hash_input j m ≡ hash_input k n → (j ≡ k) × (m ≡ n)
