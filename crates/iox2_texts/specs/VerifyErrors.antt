-- The verdicts of a verifier, and how they print.
use Rattle.std.specs.Prelude.{ℕ, List, ◌++◌, Contains, All, Result, Ok, Err}
use lib.Chars.{codes}
use Rattle.iox2_texts.specs.Pair.{Pair}
use Rattle.iox2_texts.specs.Verify.{Requirements, IsSatisfied, IsLeastMissing, IsFirstMissing}
use Rattle.iox2_texts.specs.declared.attribute.verifier.AttributeVerificationError.{AttributeVerificationError}
use Rattle.iox2_texts.specs.declared.attribute.verifier.AttributeVerificationError.TheVariants.{NonExistingKey, IncompatibleAttribute}

-- what verifying a set answers: yes where all is satisfied,
-- else the least missing pair, else the first missing key
abbrev pub Verifies : Requirements → List Pair → Result (Unit {0}) AttributeVerificationError
    → Type 0
Verifies required pairs (Ok _) = IsSatisfied required pairs
Verifies required pairs (Err (IncompatibleAttribute fault)) =
    IsLeastMissing required.pairs pairs (record { key = fault.0; value = fault.1 })
Verifies required pairs (Err (NonExistingKey key)) =
    All (Contains pairs) required.pairs × IsFirstMissing required.keys pairs key

-- how the fault prints
abbrev pub verification_error_text : AttributeVerificationError → List ℕ
verification_error_text (NonExistingKey key) =
    codes "AttributeVerificationError::NonExistingKey(\"" ++ key ++ codes "\")"
verification_error_text (IncompatibleAttribute fault) =
    codes "AttributeVerificationError::IncompatibleAttribute((\"" ++ fault.0 ++ codes "\", \""
    ++ fault.1 ++ codes "\"))"
