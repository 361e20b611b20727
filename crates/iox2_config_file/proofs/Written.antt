-- The settings of a table as they are written, and as they are read from that: the parts of a
-- value, what makers of texts answer, and the lines of each setting.
use Rattle.std.proofs.Common.{◌≡◌, ℕ, ◌/◌, ◌%◌, ◌<◌, ◌≤◌, ◌^◌, pos, Bool, true, false, not, ◌&&◌, ◌||◌, List, [], ◌∷◌, ◌++◌, length, codes, map, Option, Some, None, option_map, Ok, inl, inr, refl, sym, ap, arith, append_assoc, subst, rules, Result}
use Rattle.std.specs.Prelude.{nat_lt, ⊤, nat_le, Contains}
use Rattle.std.specs.List.{list_all, filter_map, list_any}
use Rattle.std.proofs.Math.Nat.{mod-lt}
use Rattle.std.proofs.lemmas.Bool.{cases_Bool}
use Rattle.std.proofs.lemmas.Bool.Decides.{nat_tests, Decides-and, Decides-by_and, Decides-by_or, Decides-eqb, Decides-like, Decides-not}
use Rattle.std.proofs.lemmas.Nat.{div-add-mod'}
use Rattle.std.proofs.lemmas.List.Folds.{list_all-append}
use Rattle.toml_parser.specs.Lexical.{is_bare, is_non_eol}
use Rattle.toml_writer.specs.Text.{has, key_text, string_text, encoding_of, escaped, needs_escape, quotes_after}
use Rattle.toml.specs.Data.{Data, string, integer, boolean, table, no_members, member}
use Rattle.toml.specs.Tables.{Expression, Nodes, value, insert, key_value}
use Rattle.toml.specs.Text.{IsValueText}
use Rattle.iox2_texts.specs.Text.{IsTextUpTo, IsText, IsTextByte}
use Rattle.iox2_texts.specs.Name.{IsAllowed, MakesLegal}
use Rattle.iox2_texts.specs.Path.{IsPlain, is_slash}
use Rattle.iox2_config.specs.declared.config.choices.BackpressureStrategy.{BackpressureStrategy}
use Rattle.iox2_config.specs.declared.config.choices.AllocationStrategy.{AllocationStrategy}
use Rattle.iox2_config.specs.declared.config.choices.BackpressureStrategy.TheVariants.{RetryUntilDelivered, DiscardData}
use Rattle.iox2_config.specs.declared.config.choices.AllocationStrategy.TheVariants.{BestFit, PowerOfTwo, Static}
use Rattle.iox2_config_file.specs.declared.fault.Kind.{Kind}
use Rattle.iox2_config_file.specs.declared.fault.Kind.TheVariants as kind
use Rattle.iox2_config_file.specs.declared.section.Row.{Row}
use Rattle.iox2_config_file.specs.Read.{row_view}
use Rattle.iox2_config_file.specs.Answers.{IsLegal, AreLegal}
use Rattle.iox2_config_file.specs.Settings.{is_line, are_lines, Setting}
use Rattle.iox2_config_file.specs.Values.{SettingValue, number, flag, text, backpressure, allocation, duration, absent, settings, value_in, text_in, is_path, is_file_name, member_count}
use Rattle.iox2_config_file.specs.Write.{value_text, value_fits, value_is_set, assignment, entry_text, entries_text}
use Rattle.iox2_config_file.proofs.Rowed.{no_entries}
use Rattle.iox2_config_file.proofs.Reading.{Block, IsRead, block_append, block_none, block_newline, block_comment, block_pair, line_read, value_read}
use Rattle.toml.specs.View.{members_view}
use Rattle.toml.proofs.Views.{Entry}
use Rattle.std.specs.Bool.{Decides}
use Rattle.std.specs.Result.{result_map_both}
use Rattle.std.proofs.lemmas.List.Elements.{Decides-contains}
use Rattle.std.proofs.lemmas.Slice.Eq.{bytes_eq-Decides}
use Rattle.iox2_texts.specs.declared.bounded.SemanticStringError.{SemanticStringError}

pub count_is : (es : List Entry) → length es ≡ member_count (members_view es)
count_is [] = refl
count_is (e ∷ es) = omega (arith, count_is es)

-- a byte that a text may hold
abbrev byte_test : ℕ → Bool
byte_test b = nat_le 1 b && nat_le b 127

is_text : (s : List ℕ) → Decides (list_all byte_test s) (IsText s)
is_text s =
    Decides-by_and byte_test IsTextByte (list_all byte_test) (λ b. grind (arith, nat_tests)) refl
    (λ _ _. refl) s

-- a maker's answer is that of the function
pub made_text : (Allows : List ℕ → Type 0) (allows : List ℕ → Bool) (s : List ℕ)
    (r : Result (List ℕ) SemanticStringError)
    → Decides (allows s) (Allows s) → MakesLegal (IsAllowed Allows 255) 255 s r
    → result_map_both text (λ e. e) r ≡ text_in allows s
made_text Allows allows s r d h = grind (arith, Decides-and, is_text, nat_tests)

pub any_path : (s : List ℕ) → Decides (is_path s) ⊤
any_path s = search rules

has_slash : (s : List ℕ) → Decides (list_any is_slash s) (Contains s 47)
has_slash s =
    Decides-contains s 47 (list_any is_slash s)
    (Decides-by_or is_slash (λ b. b ≡ 47) (list_any is_slash) (λ b. Decides-eqb b 47) refl
    (λ _ _. refl) s)

pub plain : (s : List ℕ) → Decides (is_file_name s) (IsPlain s)
plain s =
    grind (arith, Decides-like, Decides-and, nat_tests, Decides-not, has_slash, bytes_eq-Decides)

-- a key, and what is written at it, if anything is
abbrev pub Pair : Type 0
Pair = List ℕ × Option Data

-- the lines of some pairs
abbrev line_of : Pair → Option Expression
line_of p = option_map (λ d. (([], p.0), key_value d)) p.1

abbrev pub lines_of : List Pair → List Expression
lines_of ps = filter_map line_of ps

-- a table after a pair, and after some
abbrev set_one : List ℕ → Option Data → Nodes → Nodes
set_one k None ns = ns
set_one k (Some d) ns = insert k (value d) ns

abbrev pub set_all : List Pair → Nodes → Nodes
set_all [] ns = ns
set_all (p ∷ ps) ns = set_all ps (set_one p.0 p.1 ns)

-- the lines of one pair more
more_lines : (k : List ℕ) (o : Option Data) (ps : List Pair)
    → lines_of ((k, o) ∷ ps) ≡ filter_map line_of ((k, o) ∷ []) ++ lines_of ps
more_lines k o ps = grind arith

-- the names of strategies
abbrev backpressure_name : BackpressureStrategy → List ℕ
backpressure_name RetryUntilDelivered = codes "RetryUntilDelivered"
backpressure_name DiscardData = codes "DiscardData"

abbrev allocation_name : AllocationStrategy → List ℕ
allocation_name BestFit = codes "BestFit"
allocation_name PowerOfTwo = codes "PowerOfTwo"
allocation_name Static = codes "Static"

-- what TOML has for a value
abbrev pub data_at : SettingValue → Option Data
data_at (number n) = Some (integer (pos n))
data_at (flag b) = Some (boolean b)
data_at (text s) = Some (string s)
data_at (backpressure b) = Some (string (backpressure_name b))
data_at (allocation a) = Some (string (allocation_name a))
data_at (duration n) =
    Some (table (member (codes "nanos") (integer (pos (n % 1_000_000_000)))
    (member (codes "secs") (integer (pos (n / 1_000_000_000))) no_members)))
data_at absent = None
data_at settings = None

abbrev pub pair_of : Setting → Pair
pair_of x = (x.key, data_at x.value)

-- the value is one of the kind, or there is none
abbrev pub has_kind : Kind → SettingValue → Bool
has_kind kind.Number (number n) = true
has_kind kind.Flag (flag b) = true
has_kind kind.Path (text s) = true
has_kind kind.FileName (text s) = true
has_kind kind.Backpressure (backpressure b) = true
has_kind kind.Allocation (allocation a) = true
has_kind kind.Duration (duration n) = true
has_kind k absent = true
has_kind k v = false

-- what is written for a value is read as the data, and that as the value
pub record IsKept (k : Kind) (v : SettingValue) (d : Data) : Type 0 where
  pub set : value_is_set v ≡ true
  pub writes : IsRead d (value_text v)
  pub reads : value_in k d ≡ Ok v

abbrev pub Keeps : Kind → SettingValue → Option Data → Type 0
Keeps k v None = v ≡ absent
Keeps k v (Some d) = IsKept k v d

below : (n m : ℕ) → n < m → nat_lt n m ≡ true
below n m h = grind (arith, nat_tests)

legal_path : (s : List ℕ) → IsTextUpTo 255 s → text_in is_path s ≡ Ok (text s)
legal_path s h = sym (made_text (λ _. ⊤) is_path s (Ok s) (any_path s) (refl, h.0, (h, tt)))

legal_name : (s : List ℕ) → IsAllowed IsPlain 255 s → text_in is_file_name s ≡ Ok (text s)
legal_name s h = sym (made_text IsPlain is_file_name s (Ok s) (plain s) (refl, h.0.0, h))

parts_written : (n : ℕ) → n / 1_000_000_000 < 2 ^ 63 → n % 1_000_000_000 < 1_000_000_000
    → IsValueText false (table (member (codes "nanos") (integer (pos (n % 1_000_000_000)))
    (member (codes "secs") (integer (pos (n / 1_000_000_000))) no_members)))
    (value_text (duration n))
unfolding key_text
parts_written n fits less = grind arith

text_written : (s : List ℕ) → IsRead (string s) (value_text (text s))
text_written s =
    elim (cases_Bool (has 10 s)) [
      | inl some ↦ rw some (line_read s some)
      | inr none ↦ rw none (value_read (string s) (string_text s) refl (omega arith) refl)
    ]

-- what is written is read as the value
pub keeps : (k : Kind) (v : SettingValue) → has_kind k v ≡ true → IsLegal k v
    → value_fits v ≡ true → Keeps k v (data_at v)
unfolding string_text encoding_of escaped needs_escape quotes_after
keeps k (text s) kinded legal fits =
    grind (arith, nat_tests, legal_path, legal_name, text_written)
keeps k v kinded legal fits =
    grind (arith, nat_tests, value_read, div-add-mod', mod-lt, parts_written)

-- a key that is written as it is
abbrev pub is_bare_key : List ℕ → Bool
is_bare_key k = nat_lt 0 (length k) && list_all is_bare k

bare_text : (k : List ℕ) → is_bare_key k ≡ true → key_text k ≡ k
unfolding key_text
bare_text k bare = rw bare refl

-- the bytes may stand in a comment: none ends a line
abbrev pub is_comment : List ℕ → Bool
is_comment bytes = list_all is_non_eol bytes

pub line_comment : (line : List ℕ) → is_line line ≡ true → is_comment line ≡ true
line_comment [] plain = refl
line_comment (c ∷ cs) plain = grind (arith, nat_tests, line_comment cs)

pub comments_append : (a b : List ℕ) → is_comment a ≡ true → is_comment b ≡ true
    → is_comment (a ++ b) ≡ true
comments_append a b one other = rw (list_all-append is_non_eol a b, one, other) refl

bare_comment : (k : List ℕ) → list_all is_bare k ≡ true → is_comment k ≡ true
bare_comment [] bare = refl
bare_comment (c ∷ cs) bare = grind (arith, nat_tests, bare_comment cs)

pub block_is : (a b : List ℕ) (es : List Expression) → a ≡ b → Block b es → Block a es
block_is a b es is block = subst (λ text. Block text es) (sym is) block

unset_block : (key : List ℕ) → is_bare_key key ≡ true → Block (assignment key absent) []
unset_block key bare =
    let text = 32 ∷ (key ++ codes " is not set") in
    let line : is_comment text ≡ true = grind (arith, bare_comment, comments_append) in
    block_is _ (35 ∷ (text ++ 10 ∷ [])) [] (simp append_assoc refl) (block_comment text line)

-- what stands below the comment of a setting
assignment_block : (key : List ℕ) (k : Kind) (v : SettingValue) (o : Option Data)
    → is_bare_key key ≡ true → Keeps k v o → Block (assignment key v) (lines_of ((key, o) ∷ []))
assignment_block key k v None bare kept = rw kept (unset_block key bare)
assignment_block key k v (Some d) bare kept =
    let block = block_pair key (value_text v) d kept.writes in
    grind (arith, kept.set, bare_text)

-- the comment of a setting, from its first space on
abbrev comment : List ℕ → List ℕ → List ℕ
comment about default = 32 ∷ (about ++ (codes " By default " ++ (default ++ codes ".")))

is_comment_of : (about default : List ℕ) → is_line about ≡ true → is_comment default ≡ true
    → is_comment (comment about default) ≡ true
is_comment_of about default one other =
    let said = line_comment about one in grind (arith, comments_append)

entry_layout : (about default rest : List ℕ)
    → codes "\n# " ++ (about ++ (codes " By default " ++ (default ++ (codes ".\n" ++ rest))))
    ≡ (10 ∷ []) ++ ((35 ∷ (comment about default ++ 10 ∷ [])) ++ rest)
entry_layout about default rest = simp append_assoc refl

entry_block : (row : Row) (default : SettingValue) (key : List ℕ) (k : Kind) (v : SettingValue)
    (o : Option Data) → row.key.now ≡ key → is_line row.about.now ≡ true
    → is_comment (value_text default) ≡ true → is_bare_key key ≡ true → Keeps k v o
    → Block (entry_text row default v) (lines_of ((key, o) ∷ []))
entry_block row default key k v o is about line bare kept =
    let text = value_text default in
    let below : Block (assignment row.key.now v) (lines_of ((key, o) ∷ [])) =
    rw is (assignment_block key k v o bare kept) in
    let comment_here = block_comment (comment row.about.now text)
    (is_comment_of row.about.now text about line) in
    block_is _ _ _ (entry_layout row.about.now text (assignment row.key.now v))
    (block_append (10 ∷ []) _ [] _ block_newline (block_append _ _ [] _ comment_here below))

-- the rows of some settings
abbrev pub rows_of : List Setting → List (List ℕ × Kind)
rows_of xs = map (λ x. (x.key, x.kind)) xs

-- where a setting is not set, its default is not set either
abbrev pub are_set : List Setting → List Setting → Bool
are_set (d ∷ ds) (x ∷ xs) = (not (value_is_set d.value) || value_is_set x.value) && are_set ds xs
are_set _ _ = true

-- settings that are written with their defaults
pub record AreWritten (defaults xs : List Setting) : Type 0 where
  pub rows : rows_of defaults ≡ rows_of xs
  pub lines : list_all (λ d. is_comment (value_text d.value)) defaults ≡ true
  pub bare : list_all (λ x. is_bare_key x.key) xs ≡ true
  pub kinded : list_all (λ x. has_kind x.kind x.value) xs ≡ true
  pub fit : list_all (λ x. value_fits x.value) xs ≡ true
  pub legal : AreLegal xs

pub rest_written : (d x : Setting) (ds xs : List Setting) → AreWritten (d ∷ ds) (x ∷ xs)
    → AreWritten ds xs
rest_written d x ds xs h = search rules

-- the settings of a table are read as their pairs
pub entries_block : (rows : List Row) (ds xs : List Setting) (more : List (List ℕ × Kind))
    → map row_view rows ≡ rows_of xs ++ more → are_lines rows ≡ true → AreWritten ds xs
    → Block (entries_text rows ds xs) (lines_of (map pair_of xs))
entries_block rows ds [] more same lines h = rw (no_entries rows ds) block_none
entries_block rows [] (x ∷ xs) more same lines h = absurd (omega (arith, ap length h.rows))
entries_block [] (d ∷ ds) (x ∷ xs) more same lines h = absurd (omega (arith, ap length same))
entries_block (row ∷ rows) (d ∷ ds) (x ∷ xs) more same lines h =
    let is : row_view row ≡ (x.key, x.kind) = cc in
    let here = entry_block row d.value x.key x.kind x.value (data_at x.value) (ap (λ r. r.0) is)
    (grind arith) (grind arith) (grind arith) (grind (arith, keeps)) in
    let below = entries_block rows ds xs more (cc) (grind arith) (rest_written d x ds xs h) in
    rw more_lines (block_append _ _ _ _ here below)
