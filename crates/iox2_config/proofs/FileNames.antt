-- The letters of base64 make the name of a file.
use Rattle.std.proofs.Common.{◌≡◌, ◌∙◌, ℕ, zero, suc, ◌+◌, ◌*◌, ◌/◌, ◌%◌, ◌<◌, rules, Bool, true, ◌&&◌, List, [], ◌∷◌, length, refl, arith}
use Rattle.std.specs.Prelude.{All, IsTrue, nat_lt, slice_index}
use Rattle.std.proofs.lemmas.List.{append-nil}
use Rattle.std.proofs.lemmas.List.Elements.{All-nil, All-cons, All-append, All-get_or}
use Rattle.std.proofs.lemmas.List.Sums.{AllPass-from_list_all}
use Rattle.base64.proofs.RoundTrip.{length-encode_symbols}
use Rattle.base64.specs.Engines.{url_safe_no_pad}
use Rattle.base64.specs.GeneralPurpose.{encode_of, IsBytes}
use Rattle.base64.specs.Rfc4648.{encode_symbols, encode_group}
use Rattle.iox2_texts.specs.Path.{is_restricted, IsRestrictedName}
use Rattle.iox2_texts.specs.Text.{IsTextByte}

-- the URL-safe alphabet
abbrev alphabet : List ℕ
alphabet = url_safe_no_pad.encode_table

-- a letter that a text may hold, and the restricted name of a file
abbrev is_letter : ℕ → Bool
is_letter b = nat_lt 0 b && (nat_lt b 128 && is_restricted b)

abbrev Letter : ℕ → Type 0
Letter b = IsTextByte b × IsTrue (is_restricted b)

letter_of : (b : ℕ) → is_letter b ≡ true → Letter b
letter_of b holds = search rules

-- each symbol of the alphabet is one
symbol : (i : ℕ) → i < 64 → Letter (slice_index alphabet i)
symbol i below =
    letter_of (slice_index alphabet i)
    (All-get_or (λ b. is_letter b ≡ true) alphabet i 0 below
    (AllPass-from_list_all is_letter alphabet refl))

abbrev at : ℕ → ℕ
at i = slice_index alphabet i

two : (i j : ℕ) → i < 64 → j < 64 → All Letter (at i ∷ at j ∷ [])
two i j li lj = search (All-cons, All-nil, symbol)

three : (i j k : ℕ) → i < 64 → j < 64 → k < 64 → All Letter (at i ∷ at j ∷ at k ∷ [])
three i j k li lj lk = search (All-cons, symbol, two)

four : (i j k l : ℕ) → i < 64 → j < 64 → k < 64 → l < 64
    → All Letter (at i ∷ at j ∷ at k ∷ at l ∷ [])
four i j k l li lj lk ll = search (All-cons, symbol, three)

letters : (m : List ℕ) → IsBytes m → All Letter (encode_symbols alphabet m)
unfolding encode_symbols
letters [] bytes = All-nil Letter
letters (a ∷ []) bytes = let la : a < 256 = bytes zero in search (arith, two)
letters (a ∷ b ∷ []) bytes =
    let la : a < 256 = bytes zero in
    let lb : b < 256 = bytes (suc zero) in
    three (a / 4) (a % 4 * 16 + b / 16) (b % 16 * 4) (omega arith) (omega arith) (omega arith)
letters (a ∷ b ∷ c ∷ rest) bytes =
    let la : a < 256 = bytes zero in
    let lb : b < 256 = bytes (suc zero) in
    let lc : c < 256 = bytes (suc (suc zero)) in
    All-append Letter (encode_group alphabet a b c) (encode_symbols alphabet rest)
    (four (a / 4) (a % 4 * 16 + b / 16) (b % 16 * 4 + c / 64) (c % 64)
    (omega arith) (omega arith) (omega arith) (omega arith))
    (letters rest (λ i. bytes (suc (suc (suc i)))))

-- the text of twenty bytes is the name of a file, and has 27 bytes
pub record NamesFile (text : List ℕ) : Type 0 where
  pub restricted : IsRestrictedName 64 text
  pub size : length text ≡ 27

pub twenty_bytes : (m : List ℕ) → length m ≡ 20 → IsBytes m
    → NamesFile (encode_of url_safe_no_pad m)
twenty_bytes m long bytes =
    let text : List ℕ = encode_symbols alphabet m in
    let size : length text ≡ 27 = length-encode_symbols alphabet m ∙ rw long refl in
    let all : All Letter text = letters m bytes in
    rw (append-nil text) (record { restricted = grind arith; size = size })
