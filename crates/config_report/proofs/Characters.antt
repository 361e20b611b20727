-- Texts whose control characters are escaped: how one is written, and that all that is found stands
-- in one line each.
use Rattle.std.specs.Char.{encode_utf8, is_control}
use Rattle.std.specs.Fmt.{digit_glyph, digits, digits_onto}
use Rattle.std.specs.List.{All}
use Rattle.std.proofs.lemmas.List.Folds.{list_all-append}
use Rattle.std.proofs.lemmas.List.Elements.{All-append, All-cons, All-map, All-nil, All-same}
use Rattle.config_report.proofs.Prelude.{◌∷◌, ◌/◌, ◌%◌, ◌==◌, IsUtf8, length, flat_map, chars, zero, suc, append_assoc, append-nil, arith, ◌≡◌, ◌++◌, ◌&&◌, if◌then◌else◌, Bool, true, false, List, [], ℕ, Option, Some, None, option_map, map, get_or, refl, inl, inr, subst, sym, nat_le, codes, nat_tests, chars-nil, chars_past_char, get_or-map, length-map, All-permutation, Contradiction, Side, contradiction_note, positioned_note, side_note, Checks, AreInLine, is_in_line, key_in_line, IsNoFile, error_behind, topics_in, printable_char, reason_text, prefix_of, beside_text, is_later, side_position, has_no_control, in_line, meant_text, Note, Topic, fault, unknown, note, note_in, topic_note, topic_position, finding_view}
use Rattle.config_report.specs.Printable.{printable}
use Rattle.config_report.specs.declared.finding.Severity.TheVariants.{Error, Warning}
use Rattle.toml_writer.specs.Text.{key_text}
use Rattle.config_report.specs.declared.contradiction.Effect.{Effect}
use Rattle.config_report.specs.declared.finding.Finding.{Finding}
use Rattle.config_report.specs.declared.finding.Findings.{Findings}
use Rattle.config_report.specs.declared.finding.Severity.{Severity}
use Rattle.toml_positions.specs.declared.position.Position.{Position}

-- one character more is written
pub printed_next : (text rest : List ℕ) (c : ℕ) (out new whole : List ℕ) → IsUtf8 text
    → text ≡ encode_utf8 c ++ rest → out ++ flat_map printable_char (chars text) ≡ whole
    → new ≡ out ++ printable_char c → new ++ flat_map printable_char (chars rest) ≡ whole
printed_next text rest c out new whole utf8 parts before wrote =
    grind (arith, chars, append_assoc, chars_past_char)

-- an empty text has no characters
pub chars_end : (text : List ℕ) → length text ≡ 0 → chars text ≡ []
chars_end [] none = chars-nil
chars_end (c ∷ cs) none = absurd (omega arith)

-- where no character is left, all are written
pub printed_end : (rest first text : List ℕ) (out before : List ℕ)
    → out ++ flat_map printable_char (chars rest)
    ≡ before ++ flat_map printable_char (chars first)
    → length rest ≡ 0 → first ≡ text → out ≡ before ++ printable text
unfolding printable
printed_end rest first text out before same none all = grind (arith, append-nil, chars_end, chars)

-- no byte of these is a control character below 32
abbrev IsClear : List ℕ → Type 0
IsClear text = has_no_control text ≡ true

clear_both : (xs ys : List ℕ) → IsClear xs → IsClear ys → IsClear (xs ++ ys)
clear_both xs ys p q = rw (list_all-append (λ c. nat_le 32 c) xs ys, p, q) refl

choose : (b : Bool) (x y : List ℕ) → (b ≡ true → IsClear x) → IsClear y
    → IsClear (if b then x else y)
choose true x y f g = f refl
choose false x y f g = g

clear_more : (d : ℕ) (text : List ℕ) → IsClear text → IsClear (digit_glyph false d ∷ text)
clear_more d text p = grind (arith, nat_tests)

clear_digits : (k n : ℕ) (text : List ℕ) → IsClear text → IsClear (digits_onto k 16 false n text)
clear_digits zero n text p = p
clear_digits (suc k) n text p =
    let more = clear_more (n % 16) text p in
    choose (n / 16 == 0) _ _ (λ _. more) (clear_digits k (n / 16) _ more)

clear_hex : (c : ℕ) → IsClear (digits 16 false c)
unfolding digits
clear_hex c = clear_digits 64 c [] refl

clear_escape : (c : ℕ) → IsClear (codes "\\u{" ++ (digits 16 false c ++ codes "}"))
clear_escape c =
    let hex = digits 16 false c in
    clear_both (codes "\\u{") (hex ++ codes "}") refl
    (clear_both hex (codes "}") (clear_hex c) refl)

clear_spelled : (c : ℕ) → is_control c ≡ false → IsClear (encode_utf8 c)
unfolding encode_utf8
clear_spelled c e = grind (arith, nat_tests)

clear_char : (c : ℕ) → IsClear (printable_char c)
clear_char c = grind (arith, clear_escape, clear_spelled)

clear_all : (cs : List ℕ) → IsClear (flat_map printable_char cs)
clear_all [] = refl
clear_all (c ∷ cs) = clear_both (printable_char c) _ (clear_char c) (clear_all cs)

clear_printable : (text : List ℕ) → IsClear (printable text)
unfolding printable
clear_printable text = clear_all (chars text)

line_of : (text : List ℕ) → IsClear (in_line text)
line_of text = clear_printable text

key_of : (key : Option (List ℕ)) → key_in_line (option_map in_line key) ≡ true
key_of None = refl
key_of (Some k) = line_of k

both : (a b : Bool) → a ≡ true → b ≡ true → (a && b) ≡ true
both a b p q = rw (p, q) refl

note_of : (at : Option Position) (severity : Severity) (key : Option (List ℕ)) (words : List ℕ)
    → is_in_line (note at severity key words) ≡ true
note_of at severity key words = both _ _ (key_of key) (line_of words)

topic_of : (at : Option Position) (topic : Topic) → is_in_line (topic_note at topic) ≡ true
topic_of at (fault (s, key, reason)) =
    note_of at Error (Some (prefix_of s ++ key)) (reason_text reason)
topic_of at (unknown (s, key, meant)) =
    note_of at Warning (Some (prefix_of s ++ key_text key)) (meant_text meant)

side_of : (at : Option Position) (one : Side) (other : Option Side) (effect : Effect)
    → is_in_line (side_note at one other effect) ≡ true
side_of at one other effect =
    note_of at Warning (Some (prefix_of one.0 ++ one.1)) (beside_text one other effect)

choose_note : (b : Bool) (m n : Note) → is_in_line m ≡ true → is_in_line n ≡ true
    → is_in_line (if b then m else n) ≡ true
choose_note true m n p q = p
choose_note false m n p q = q

positioned_of : (bytes : List ℕ) (one : Side) (other : Option Side) (effect : Effect)
    → is_in_line (positioned_note bytes one other effect) ≡ true
positioned_of bytes one None effect = side_of None one None effect
positioned_of bytes one (Some other) effect =
    let p = side_position bytes one in
    let q = side_position bytes other in
    choose_note (is_later p q) (side_note q other (Some one) effect)
    (side_note p one (Some other) effect) (side_of q other (Some one) effect)
    (side_of p one (Some other) effect)

abbrev InLine : Note → Type 0
InLine n = is_in_line n ≡ true

-- what is said of a file is in line
notes_of : (bytes : List ℕ) (ts : List Topic) (cs : List Contradiction)
    → All InLine (map (note_in bytes) ts ++ map (contradiction_note bytes) cs)
notes_of bytes ts cs =
    All-append InLine _ _
    (All-map InLine (note_in bytes) ts
    (λ k d inside. let t = get_or ts k d in topic_of (topic_position bytes t) t))
    (All-map InLine (contradiction_note bytes) cs
    (λ k d inside. let c = get_or cs k d in positioned_of bytes c.one c.other c.effect))

-- so is what is found where that is said
found_of : (fs : List Finding) (ns : List Note) → map finding_view fs ≡ ns → All InLine ns
    → AreInLine fs
found_of fs ns e all k d inside =
    subst InLine (get_or-map finding_view fs k d (finding_view d) inside)
    (All-same InLine _ ns e all k (finding_view d) (rw length-map inside))

-- what is said of bytes that are no file of settings
error_of : (bytes : List ℕ) (said : Note) (n : ℕ) (words : List ℕ)
    → said ≡ error_behind n bytes words → is_in_line said ≡ true
error_of bytes said n words is =
    subst (λ m. is_in_line m ≡ true) (sym is) (note_of None Error None words)

no_file_of : (bytes : List ℕ) (said : Note) → IsNoFile bytes said → is_in_line said ≡ true
no_file_of bytes said (inl (n, refuted, valid, is)) =
    error_of bytes said n (codes "the file is no UTF-8") is
no_file_of bytes said (inr (inl (n, utf8, deep, is))) =
    error_of bytes said n (codes "tables and arrays are more than 32 deep in one another") is
no_file_of bytes said (inr (inr (n, words, within, text, unparsed, is))) =
    error_of bytes said n words is

pub checks_in_line : (bytes : List ℕ) (found : Findings) → Checks bytes found
    → AreInLine found.list.items
checks_in_line bytes found (inl h) =
    found_of _ _ h.list
    (All-cons InLine h.said [] (no_file_of bytes h.said h.no_file) (All-nil InLine))
checks_in_line bytes found (inr h) =
    let (made, same, order) = h.list in
    All-permutation (λ f. InLine (finding_view f)) made _ order.same
    (found_of made _ same (notes_of bytes (topics_in h.default h.file) _))
