-- Lemmas on legal texts, and on what stands after the last `/` of one.
use Rattle.std.proofs.Common.{◌≡◌, ℕ, List, ◌++◌, length, arith, IsUtf8, length-append, ap, ◌-◌, ◌<◌, ◌≤◌, true, false, get_or, drop, rules}
use Rattle.std.specs.Str.{IsAscii}
use Rattle.std.proofs.lemmas.List.{get_or_past, append-nil}
use Rattle.std.proofs.lemmas.List.Elements.{All-drop}
use Rattle.std.proofs.Math.Seq.{drop-append_seam, get_or-append_right}
use Rattle.std.proofs.lemmas.Str.{IsUtf8-from_ascii}
use Rattle.std.specs.Prelude.{Result, Ok, Err, IsErrAnd, not, Contains}
use Rattle.iox2_texts.specs.Text.{IsText, IsTextByte, AppendsText}
use Rattle.iox2_texts.specs.Name.{MakesServiceName}
use Rattle.iox2_texts.specs.Errors.{name_error}
use Rattle.iox2_texts.specs.declared.bounded.StringModificationError.{StringModificationError}
use Rattle.iox2_texts.specs.declared.bounded.StringModificationError.TheVariants.{InsertWouldExceedCapacity, InvalidCharacter}
use Rattle.iox2_texts.specs.declared.service_name.ServiceNameError.{ServiceNameError}
use Rattle.std.specs.List.{after_last}
use Rattle.std.proofs.Math.ListN.{get_or-append}
use Rattle.std.proofs.lemmas.List.Sums.{suffix_len_is}
use Rattle.iox2_texts.specs.Path.{is_slash, join, IsPlain, EndsPlain}

-- a legal text is ASCII
pub IsAscii-from_text : (bytes : List ℕ) → IsText bytes → IsAscii bytes
IsAscii-from_text bytes legal i = grind (arith, get_or_past)

-- and so UTF-8
pub utf8_of_text : (bytes : List ℕ) → IsText bytes → IsUtf8 bytes
utf8_of_text bytes legal = IsUtf8-from_ascii bytes (IsAscii-from_text bytes legal)

-- what ends a legal text is legal
pub IsText-right : (xs ys : List ℕ) → IsText (xs ++ ys) → IsText ys
IsText-right xs ys legal =
    let e = drop-append_seam xs ys in rw (← e) (All-drop IsTextByte (length xs) (xs ++ ys) legal)

-- a refused ending of a name refuses the whole
pub prefixed_error : (prefix name old new : List ℕ) (e : StringModificationError)
    (r : Result (List ℕ) ServiceNameError)
    → old ≡ prefix → AppendsText 255 old name (Err e) new → IsErrAnd r (λ x. x ≡ name_error e)
    → MakesServiceName (prefix ++ name) r
prefixed_error prefix name old new e (Ok text) same refused is = absurd is
prefixed_error prefix name old new InsertWouldExceedCapacity (Err x) same refused is =
    rw is (omega (arith, refused.1, ap length same, length-append prefix name))
prefixed_error prefix name old new InvalidCharacter (Err x) same refused is =
    rw is (
      omega (arith, refused.1, ap length same, length-append prefix name),
      λ legal. refused.2 (IsText-right prefix name legal.0.1),
    )

-- from `start` on there is no `/`, and before it stands one or nothing
pub last_part_is : (bytes : List ℕ) (start : ℕ) → start ≤ length bytes
    → ((k : ℕ) → start ≤ k → k < length bytes → not (is_slash (get_or bytes k 0)) ≡ true)
    → (0 < start → not (is_slash (get_or bytes (start - 1) 0)) ≡ false)
    → drop start bytes ≡ after_last is_slash bytes
last_part_is bytes start within tail before = grind (arith, suffix_len_is)

-- what is not in a list is not found there
not_found : (file : List ℕ) (k : ℕ) → ¬ (Contains file 47) → k < length file
    → not (is_slash (get_or file k 0)) ≡ true
not_found file k plain inside = search rules

-- a plain name behind nothing, or behind a `/`, is the last part
last_part-after : (front file : List ℕ) → ¬ (Contains file 47)
    → (0 < length front → is_slash (get_or front (length front - 1) 0) ≡ true)
    → after_last is_slash (front ++ file) ≡ file
last_part-after front file plain ends =
    let whole = last_part_is (front ++ file) (length front) in
    let sizes = length-append front file in
    let behind = get_or-append_right front file in
    let last = get_or-append front file 0 (length front - 1) in
    grind (arith, not_found, drop-append_seam)

-- the last part of a joined path
last_part-join : (path file : List ℕ) → ¬ (Contains file 47)
    → after_last is_slash (join path file) ≡ file
last_part-join path file plain =
    grind (arith, last_part-after, append-nil, length-append, get_or-append_right)

-- a plain file stands at the end of what it is joined to
pub ends_plain_joined : (path file joined : List ℕ) → IsPlain file → joined ≡ join path file
    → EndsPlain joined
ends_plain_joined path file joined plain is = grind (arith, last_part-join)
