-- A caller's arrays of keys and values, and what a caller requires of a set of attributes.
use Rattle.std.specs.Prelude.{◌≡◌, ℕ, ◌+◌, ◌≤◌, List, Some, Result, Ok, Err, map, take, length, slice_get, All, IsPermutation, IsSorted}
use Rattle.std.specs.Option.{ok_or}
use Rattle.iox2sd_values.specs.Prelude.{Attribute, CountAnswer, IsName, Key, MakesName, PlaceAnswer, TextAnswer, count_answer, place_answer, Reading, Returns, Refusal, IsListing, values_of, Pair, pair_cmp, IsFirst}
use Rattle.iox2_texts.specs.VerifyErrors.{Verifies}
use Rattle.iox2_texts.specs.declared.attribute.verifier.AttributeVerificationError.{AttributeVerificationError}
use Rattle.iox2_texts.specs.declared.attribute.verifier.AttributeVerificationError.TheVariants.{NonExistingKey, IncompatibleAttribute}
use Rattle.iox2sd_common.specs.declared.status.Status.TheVariants as status
use Rattle.iox2sd_values.specs.declared.attributes.Fault.{Fault}
use Rattle.iox2sd_values.specs.declared.attributes.Fault.TheVariants as fault
use Rattle.iox2sd_values.specs.Refusals.{IsCause, MakesOr, ReportsMade, refused_count, refused_place}
use Rattle.iox2sd_values.specs.Texts.{ChecksName}
use Rattle.iox2sd_values.specs.declared.refusals.Refusal.TheVariants as refusal

-- the pair, and the key, as the layer has it
abbrev pub pair_of : Attribute → Pair
pair_of a = record { key = a.key.now; value = a.value.now }

abbrev pub text_of : Key → List ℕ
text_of k = k.text.now

-- both texts are legal
abbrev pub IsLegal : Attribute → Type 0
IsLegal a = IsName 64 a.key.now × IsName 256 a.value.now

-- the pair at this place has the fault, or there are sixteen before it
abbrev pub HasFault : Fault → ℕ → Attribute → Type 0
HasFault (fault.Key cause) i a = (¬ (IsName 64 a.key.now)) × IsCause (ChecksName 64 a.key.now) cause
HasFault (fault.Value cause) i a =
    IsName 64 a.key.now × (¬ (IsName 256 a.value.now)) × IsCause (ChecksName 256 a.value.now) cause
HasFault fault.Number i a = IsLegal a × (i ≡ 16)

-- each element before the place passes, and the one at it fails
abbrev pub FailsAt : {A : Type 0} → (A → Type 0) → (A → Type 0) → List A → ℕ → Type 0
FailsAt {A} Passes Fails xs i =
    (bad : A) × (slice_get xs i ≡ Some bad) × All Passes (take i xs) × Fails bad

-- the pairs are legal and at most sixteen, or the first that is not has the fault at its place
abbrev pub ChecksPairs : List Attribute → Result (Unit {0}) (Fault × ℕ) → Type 0
ChecksPairs pairs (Ok _) = All IsLegal pairs × (length pairs ≤ 16)
ChecksPairs pairs (Err (fault, at)) = (at ≤ 16) × FailsAt IsLegal (HasFault fault at) pairs at

-- why a pair of a set is refused for its fault, and why a required pair is
abbrev pub set_refusal : Fault → Refusal
set_refusal (fault.Key cause) = refusal.OfText status.BadKey cause
set_refusal (fault.Value cause) = refusal.OfText status.BadValue cause
set_refusal fault.Number = refusal.Because status.TooMany

abbrev pub required_refusal : Fault → Refusal
required_refusal (fault.Key cause) = refusal.OfText status.BadRequiredKey cause
required_refusal (fault.Value cause) = refusal.OfText status.BadRequiredValue cause
required_refusal fault.Number = refusal.Because status.TooManyRequired

-- the answer on pairs that are a set, or on the first that is wrong
abbrev pub set_answer : Result (Unit {0}) (Fault × ℕ) → PlaceAnswer
set_answer (Ok _) = place_answer status.Done 0
set_answer (Err (fault, at)) = refused_place (set_refusal fault) at

-- the answer reports whether the pairs are a set
abbrev pub ReportsSet : List Attribute → PlaceAnswer → Type 0
ReportsSet pairs answer = Returns set_answer (ChecksPairs pairs) answer

-- the caller's pairs after sorting: the same in rising order, or as they were where they are no set
abbrev pub Sorts : Result (Unit {0}) (Fault × ℕ) → List Attribute → List Attribute → Type 0
Sorts (Ok _) old new = IsPermutation old new
    × IsSorted (λ a b. pair_cmp (pair_of a) (pair_of b)) new
Sorts (Err wrong) old new = new ≡ old

-- the same, with the answer that reports whether they are a set
abbrev pub SortsSet : List Attribute → PlaceAnswer → List Attribute → Type 0
SortsSet old answer new =
    Returns set_answer (λ checked. ChecksPairs old checked × Sorts checked old new) answer

-- this holds of the set that the layer makes of the pairs, which make one (`MakesOneSet`)
abbrev pub OfSet : List Attribute → (List Pair → Type 0) → Type 0
OfSet pairs Says = (set : List Pair) → IsListing (map pair_of pairs) set → Says set

-- the key whose values are searched for, or why none are: the pairs are looked at first
abbrev pub ReadsAsked : List Attribute → List ℕ → Result (List ℕ) Refusal → Type 0
ReadsAsked pairs key made =
    Reading (ChecksPairs pairs) (λ wrong. made ≡ Err (set_refusal wrong.0)) (λ _.
    MakesOr (MakesName 64 key) (ChecksName 64 key) status.BadAskedKey made)

-- how many values the key has in the set of the pairs
abbrev pub CountsValues : List Attribute → List ℕ → CountAnswer → Type 0
CountsValues pairs key answer =
    Reading (ReadsAsked pairs key) (λ r. answer ≡ refused_count r) (λ name.
    OfSet pairs (λ set. answer ≡ count_answer status.Done (length (values_of set name))))

-- the value at the index of those that the key has in the set, if there is one
abbrev pub value_at : List Pair → List ℕ → ℕ → Result (List ℕ) Refusal
value_at set key index =
    ok_or (slice_get (values_of set key) index) (refusal.Because status.NoSuchValue)

-- the same is written
abbrev pub ReportsValue : List Attribute → List ℕ → ℕ → List ℕ → TextAnswer → List ℕ → Type 0
ReportsValue pairs key index old answer new =
    Reading (ReadsAsked pairs key) (λ r. ReportsMade (Err r) old answer new) (λ name.
    OfSet pairs (λ set. ReportsMade (value_at set name index) old answer new))

-- the key is legal
abbrev pub HasText : Key → Type 0
HasText k = IsName 64 (text_of k)

-- the required key is refused so, where so many pairs and keys are before it
abbrev pub HasKeyFault : Refusal → ℕ → Key → Type 0
HasKeyFault (refusal.OfText status.BadAskedKey cause) before k =
    (¬ (HasText k)) × IsCause (ChecksName 64 (text_of k)) cause
HasKeyFault (refusal.Because status.TooManyRequired) before k = HasText k × (before ≡ 16)
HasKeyFault _ before k = ⊥

-- the keys are legal and at most sixteen with so many pairs, or the first that is not is refused so
-- at its place
abbrev pub ChecksKeys : ℕ → List Key → Result (Unit {0}) (Refusal × ℕ) → Type 0
ChecksKeys pairs keys (Ok _) = All HasText keys × (pairs + length keys ≤ 16)
ChecksKeys pairs keys (Err (r, at)) =
    (pairs + at ≤ 16) × FailsAt HasText (HasKeyFault r (pairs + at)) keys at

-- the answer on a verdict: of what the set lacks, the first place in the caller's array
abbrev pub ReportsVerdict : Result (Unit {0}) AttributeVerificationError → List Attribute → List Key
    → PlaceAnswer → Type 0
ReportsVerdict (Ok _) required keys answer = answer ≡ place_answer status.Done 0
ReportsVerdict (Err (IncompatibleAttribute fault)) required keys answer =
    (i : ℕ) × IsFirst (λ a. pair_of a ≡ record { key = fault.0; value = fault.1 }) required i
    × (answer ≡ place_answer status.MissingPair i)
ReportsVerdict (Err (NonExistingKey key)) required keys answer =
    (i : ℕ) × IsFirst (λ k. text_of k ≡ key) keys i × (answer ≡ place_answer status.MissingKey i)

-- the answer reports the layer's verdict on a set, of which these pairs and keys are required
abbrev pub ReportsOf : List Pair → List Pair → List Attribute → List Key → PlaceAnswer → Type 0
ReportsOf set wanted required keys answer =
    (verdict : Result (Unit {0}) AttributeVerificationError)
    × Verifies (record { pairs = wanted; keys = map text_of keys }) set verdict
    × ReportsVerdict verdict required keys answer

-- the same of the sets that the pairs make
abbrev pub Judges : List Attribute → List Attribute → List Key → PlaceAnswer → Type 0
Judges pairs required keys answer =
    OfSet pairs (λ set. OfSet required (λ wanted. ReportsOf set wanted required keys answer))

-- whether the pairs are a set that has what the other pairs and the keys require: the pairs are
-- looked at first, then those that are required, and then the keys
abbrev pub VerifiesSet : List Attribute → List Attribute → List Key → PlaceAnswer → Type 0
VerifiesSet pairs required keys answer =
    Reading (ChecksPairs pairs)
    (λ wrong. answer ≡ refused_place (set_refusal wrong.0) wrong.1) (λ _.
    Reading (ChecksPairs required)
    (λ wrong. answer ≡ refused_place (required_refusal wrong.0) wrong.1) (λ _.
    Reading (ChecksKeys (length required) keys)
    (λ wrong. answer ≡ refused_place wrong.0 wrong.1) (λ _.
    Judges pairs required keys answer)))
