-- The texts of phrases.
use Rattle.std.specs.Prelude.{◌≡◌, ◌≢◌, ℕ, ◌≤◌, ◌<◌, ◌^◌, List, [], ◌∷◌, ◌++◌, get_or, Option, Some, None}
use Rattle.std.specs.List.{All}
use Rattle.std.specs.Fmt.{decimal}
use Rattle.std.specs.Int.{IsInRange}
use Rattle.line_streams.specs.declared.phrase.LineEnd.{LineEnd}
use Rattle.line_streams.specs.declared.phrase.LineEnd.TheVariants.{Newline, Bytes}

-- The texts of values at the front of a text: which values can be there, each with what follows it,
-- and the whole text.
pub record Spelling (A : Type 0) : Type 1 where
  pub Fits : A × List ℕ → Type 0
  pub text : A × List ℕ → List ℕ

-- What was read fits, and this is its text. Where nothing was read, nothing that fits has this
-- text.
abbrev pub Reads : {A B : Type 0} → (A → Type 0) → (A → List B) → Option A → List B → Type 0
Reads Fits text (Some a) bytes = Fits a × (bytes ≡ text a)
Reads {A = A} Fits text None bytes = (a : A) → Fits a → bytes ≢ text a

-- no two values have one text, whatever follows them
pub record OneWay {A : Type 0} (S : Spelling A) : Type 0 where
  pub same : (a b : A × List ℕ) → S.Fits a → S.Fits b → S.text a ≡ S.text b
      → (a.0 ≡ b.0) × (a.1 ≡ b.1)

-- the byte is the code of a decimal digit
abbrev pub IsDigit : ℕ → Type 0
IsDigit byte = IsInRange 48 57 byte

-- no digit comes first
abbrev pub EndsNumber : List ℕ → Type 0
EndsNumber bytes = ¬ (IsDigit (get_or bytes 0 0))

-- a number up to a bound
abbrev pub number : ℕ → Spelling ℕ
number most = record {
  Fits = λ front. (front.0 ≤ most) × (front.0 < 2 ^ 64) × EndsNumber front.1;
  text = λ front. decimal front.0 ++ front.1;
}

-- the byte is not among them
abbrev pub HasNo : ℕ → List ℕ → Type 0
HasNo byte bytes = All (λ b. b ≢ byte) bytes

-- what stands before a byte, and the byte
abbrev pub before : ℕ → Spelling (List ℕ)
before byte = record {
  Fits = λ front. HasNo byte front.0;
  text = λ front. front.0 ++ byte ∷ front.1;
}

-- what ends a line
abbrev pub line_end : LineEnd → Spelling (Unit {0})
line_end Newline = record { Fits = λ front. Unit {0}; text = λ front. 10 ∷ front.1 }
line_end Bytes = record { Fits = λ front. front.1 ≡ []; text = λ front. front.1 }

-- one, and then the other
abbrev pub sequence : {A B : Type 0} → Spelling A → Spelling B → Spelling (A × B)
sequence P Q = record {
  Fits = λ front. P.Fits (front.0.0, Q.text (front.0.1, front.1)) × Q.Fits (front.0.1, front.1);
  text = λ front. P.text (front.0.0, Q.text (front.0.1, front.1));
}

-- after a word
abbrev pub after : {A : Type 0} → List ℕ → Spelling A → Spelling A
after word P = record { Fits = P.Fits; text = λ front. word ++ P.text front }

-- the bytes do not begin so
abbrev pub Lacks : List ℕ → List ℕ → Type 0
Lacks word bytes = (rest : List ℕ) → bytes ≢ word ++ rest

-- the others of a list, each after a byte
abbrev pub others_text : {A : Type 0} → ℕ → Spelling A → List A → List ℕ → List ℕ
others_text byte P [] rest = rest
others_text byte P (v ∷ vs) rest = byte ∷ P.text (v, others_text byte P vs rest)

abbrev pub OthersFit : {A : Type 0} → ℕ → Spelling A → List A → List ℕ → Type 0
OthersFit byte P [] rest = Lacks (byte ∷ []) rest
OthersFit byte P (v ∷ vs) rest = P.Fits (v, others_text byte P vs rest) × OthersFit byte P vs rest

-- a list after a word, with a byte between two; where it is empty, the word does not follow
abbrev pub listed_text : {A : Type 0} → List ℕ → ℕ → Spelling A → List A × List ℕ → List ℕ
listed_text word byte P ([], rest) = rest
listed_text word byte P (v ∷ vs, rest) = word ++ P.text (v, others_text byte P vs rest)

abbrev pub ListedFits : {A : Type 0} → List ℕ → ℕ → Spelling A → List A × List ℕ → Type 0
ListedFits word byte P ([], rest) = Lacks word rest
ListedFits word byte P (v ∷ vs, rest) = OthersFit byte P (v ∷ vs) rest

abbrev pub listed : {A : Type 0} → List ℕ → ℕ → Spelling A → Spelling (List A)
listed word byte P = record { Fits = ListedFits word byte P; text = listed_text word byte P }
