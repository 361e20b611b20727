-- How the lines of a file are read, one piece of the text after another.
use Rattle.std.proofs.lemmas.Grind.{common_steps}
use Rattle.std.proofs.Common.{◌≡◌, ℕ, suc, ◌-◌, ◌<◌, ◌≤◌, Bool, true, false, ◌==◌, List, [], ◌∷◌, ◌++◌, length, codes, Option, Some, option_map, option_and_then, refl, ◌∙◌, inl, inr, arith, append_assoc, append-nil, length-append, rules}
use Rattle.std.specs.List.{list_all}
use Rattle.std.specs.Prelude.{nat_lt}
use Rattle.std.proofs.lemmas.Bool.{cases_Bool}
use Rattle.std.proofs.lemmas.Bool.Decides.{nat_tests}
use Rattle.toml_parser.specs.Lexical.{first, is_bare, is_non_eol, skip_blank, skip_from, skip_ws}
use Rattle.toml_parser.proofs.LexicalLemmas.{skip_ws_none}
use Rattle.toml_parser.specs.Strings.{Key, body, one_line, quoted}
use Rattle.toml_writer.specs.Text.{basic, dotted_text, encoded, escaped, has, key_text, needs_escape}
use Rattle.toml_writer.proofs.Bodies.{body_escaped, escaped-cons}
use Rattle.toml_writer.proofs.Escapes.{Escaped-needed, apart_from_plain, needs_quote}
use Rattle.toml_writer.proofs.Strings.{is_key_start-key_text}
use Rattle.toml.specs.Data.{Data, depth, has_valid_dates, string}
use Rattle.toml.specs.Tables.{no_nodes, close, Document, Definition, Expression, define, key_value, std_table}
use Rattle.toml.specs.Parse.{atom, ends_line, expression, line, lines, skip_bom, parse_document, val}
use Rattle.toml.specs.Text.{IsValueText}
use Rattle.toml.proofs.ReadValues.{key_equals-pair, read_value, value_start}
use Rattle.toml.proofs.Turns.{keyval_ok, lines_end, lines_more, lines_refused, val_atom}
use Rattle.toml.proofs.Blanks.{skip_newline, skip_start, skip_within, starts_value}
use Rattle.toml.proofs.Fill.{run-append}
use Rattle.toml.proofs.ReadLines.{run, Turn, line_turn}

-- the text t is read as some expressions, and r is what is left of it
abbrev pub Leads : List ℕ → List Expression → List ℕ → Type 0
Leads t es r =
    (m : ℕ) → length t < m → (n : ℕ) × (length r < n)
    × ((doc : Document) → lines m doc t ≡ option_and_then (λ next. lines n next r) (run doc es))

lines_same : (m : ℕ) (doc : Document) (t r : List ℕ) → skip_blank t ≡ skip_blank r
    → lines m doc t ≡ lines m doc r
unfolding lines
lines_same m doc t r same = grind arith

pub leads_skip : (t r : List ℕ) → skip_blank t ≡ skip_blank r → length r ≤ length t → Leads t [] r
leads_skip t r same shorter m more = (m, omega arith, λ doc. lines_same m doc t r same)

pub leads_then : (t r u : List ℕ) (es fs : List Expression) → Leads t es r → Leads r fs u
    → Leads t (es ++ fs) u
leads_then t r u es fs a b m more =
    let (n, more_r, one) = a m more in
    let (k, more_u, two) = b n more_r in (k, more_u, λ doc. grind (arith, one doc, two, run-append))

line_step : (m : ℕ) (doc : Document) (t : List ℕ) (e : Expression) (after : List ℕ)
    (o : Option Document) → o ≡ define doc e → 0 < m → (length (skip_blank t) == 0) ≡ false
    → line (skip_blank t) ≡ Some (e, after)
    → lines m doc t
    ≡ option_and_then (λ next. lines (m - 1) next after) (option_and_then (λ next. Some next) o)
line_step m doc t e after o is some other read = grind (arith, lines_refused, lines_more)

leads_line : (key : Key) (def : Definition) (t rest : List ℕ) → Turn key def t rest
    → Leads t ((key, def) ∷ []) (10 ∷ rest)
leads_line key def t rest turn m more =
    let (s, at_start, read, some, shorter, _) = turn in
    let within = skip_within t in (
      m - 1,
      grind arith,
      λ doc.
          line_step m doc t (key, def) (10 ∷ rest) (define doc (key, def)) refl (omega arith)
          (grind (arith, nat_tests)) (cc),
    )

-- wherever the text stands below a line, it is read as some expressions
pub record Block (text : List ℕ) (es : List Expression) : Type 0 where
  pub leads : (rest : List ℕ) → Leads (10 ∷ (text ++ rest)) es (10 ∷ rest)

pub block_append : (a b : List ℕ) (es fs : List Expression) → Block a es → Block b fs
    → Block (a ++ b) (es ++ fs)
block_append a b es fs one other = record {
  leads = λ rest. rw (append_assoc a b rest)
      (leads_then _ _ _ es fs (one.leads _) (other.leads rest));
}

pub block_none : Block [] []
block_none = search rules

pub block_newline : Block (10 ∷ []) []
block_newline = grind (arith, leads_skip, skip_newline)

-- a comment is skipped up to the end of its line
comment_skipped : (text rest : List ℕ) → list_all is_non_eol text ≡ true
    → skip_from true true (text ++ 10 ∷ rest) ≡ skip_blank rest
unfolding skip_from
comment_skipped [] rest h = refl
comment_skipped (c ∷ cs) rest h = grind (arith, nat_tests, comment_skipped cs rest)

below_line : (text rest : List ℕ) → list_all is_non_eol text ≡ true
    → skip_blank (10 ∷ 35 ∷ (text ++ 10 ∷ rest)) ≡ skip_blank rest
unfolding skip_from
below_line text rest h = comment_skipped text rest h

above_all : (text rest : List ℕ) → list_all is_non_eol text ≡ true
    → skip_blank (35 ∷ (text ++ 10 ∷ rest)) ≡ skip_blank (10 ∷ (rest ++ []))
unfolding skip_from
above_all text rest h = grind (arith, comment_skipped, append-nil, skip_newline)

pub block_comment : (text : List ℕ) → list_all is_non_eol text ≡ true
    → Block (35 ∷ (text ++ 10 ∷ [])) []
block_comment text h =
    grind (arith, common_steps, leads_skip, below_line, skip_newline, length-append)

leads_below : (key : Key) (def : Definition) (t rest : List ℕ) → Turn key def t rest
    → Leads (10 ∷ t) ((key, def) ∷ []) (10 ∷ rest)
leads_below key def t rest turn = grind (arith, leads_then, leads_skip, skip_newline, leads_line)

-- at the end of a line the text is read as this value
pub record IsRead (d : Data) (v : List ℕ) : Type 0 where
  pub start : (rest : List ℕ) → starts_value (first (v ++ 10 ∷ rest)) ≡ true
  pub whole : (rest : List ℕ) → val 80 (v ++ 10 ∷ rest) ≡ Some (d, 10 ∷ rest)

pub value_read : (d : Data) (v : List ℕ) → IsValueText false d v → depth d ≤ 80
    → has_valid_dates d ≡ true → IsRead d v
value_read d v text deep valid = record {
  start = λ rest. (value_start false d v (10 ∷ rest) text valid).1;
  whole = λ rest.
      read_value false d 80 v (10 ∷ rest) text deep valid ((refl, refl), (refl, refl));
}

-- a text with a newline, as it is written where it is a key, is read as a value too
is_escaped : (c : ℕ) (cs rest : List ℕ) → (first (escaped false 0 (c ∷ cs) ++ rest) == 34) ≡ false
is_escaped c cs rest =
    let step = escaped-cons false 0 c cs rest in
    elim (cases_Bool (needs_escape false 0 c)) [
      | inl needed ↦
          let e = Escaped-needed false 0 c needed in rw (step, needed, e.text) refl
      | inr plain ↦
          rw (step, plain) (apart_from_plain false 0 c 34 plain (needs_quote 0))
    ]

none_all : (p : ℕ → Bool) (s : List ℕ) → p 10 ≡ false → has 10 s ≡ true → list_all p s ≡ false
none_all p [] other some = absurd (grind (arith, some))
none_all p (c ∷ cs) other some = grind (arith, nat_tests, none_all p cs)

quoted_one_line : (t : List ℕ) → (first t == 34) ≡ false
    → quoted (34 ∷ t) ≡ body 34 false (suc (length t)) t
unfolding quoted one_line
quoted_one_line t other = rw other refl

quoted_line : (c : ℕ) (cs rest : List ℕ)
    → quoted (encoded basic (c ∷ cs) ++ 10 ∷ rest) ≡ Some (c ∷ cs, 10 ∷ rest)
quoted_line c cs rest =
    let t = escaped false 0 (c ∷ cs) ++ 34 ∷ 10 ∷ rest in
    let e : encoded basic (c ∷ cs) ++ 10 ∷ rest ≡ 34 ∷ t = simp append_assoc refl in
    rw e (quoted_one_line t (is_escaped c cs (34 ∷ 10 ∷ rest))
    ∙ body_escaped false (c ∷ cs) (10 ∷ rest) 0 _ (omega arith) refl (omega arith))

atom_line : (c : ℕ) (cs rest : List ℕ)
    → atom (encoded basic (c ∷ cs) ++ 10 ∷ rest) ≡ Some (string (c ∷ cs), 10 ∷ rest)
unfolding atom
atom_line c cs rest = rw (quoted_line c cs rest) refl

key_line : (s : List ℕ) → has 10 s ≡ true → key_text s ≡ encoded basic s
unfolding key_text
key_line s some =
    let bare = none_all is_bare s refl some in
    let plain = none_all is_non_eol s refl some in
    elim (cases_Bool (nat_lt 0 (length s))) [
      | inl long ↦ rw (bare, plain, long) refl
      | inr none ↦ rw (bare, plain, none) refl
    ]

pub line_read : (s : List ℕ) → has 10 s ≡ true → IsRead (string s) (key_text s)
line_read [] some = absurd (grind (arith, some))
line_read (c ∷ cs) some =
    let is = key_line (c ∷ cs) some in record {
      start = λ rest. rw is refl;
      whole = λ rest. rw is (val_atom 80 _ refl refl ∙ atom_line c cs rest);
    }

line_pair : (k v rest : List ℕ) (d : Data) → IsRead d v
    → line (key_text k ++ (codes " = " ++ (v ++ 10 ∷ rest)))
    ≡ Some ((([], k), key_value d), 10 ∷ rest)
unfolding line expression
line_pair k v rest d is =
    let value_at = v ++ 10 ∷ rest in
    let s = key_text k ++ (codes " = " ++ value_at) in
    let pair = keyval_ok (val 80) s value_at (10 ∷ rest) ([], k) d
    (key_equals-pair k value_at (is.start rest)) (is.whole rest) in
    let key_first = is_key_start-key_text k (codes " = " ++ value_at) in
    let other : (first s == 91) ≡ false = grind (arith, nat_tests) in
    let ends : ends_line (skip_ws (10 ∷ rest)) ≡ true =
    rw (skip_ws_none (10 ∷ rest) refl) (grind (arith, nat_tests)) in
    rw (other, pair, ends) refl

pair_turn : (k v rest : List ℕ) (d : Data) → IsRead d v
    → Turn ([], k) (key_value d) ((key_text k ++ (codes " = " ++ (v ++ 10 ∷ []))) ++ rest) rest
pair_turn k v rest d is =
    let s = key_text k ++ (codes " = " ++ (v ++ 10 ∷ rest)) in
    let same : (key_text k ++ (codes " = " ++ (v ++ 10 ∷ []))) ++ rest ≡ s =
    simp append_assoc refl in
    let key_first = is_key_start-key_text k (codes " = " ++ (v ++ 10 ∷ rest)) in
    let start : starts_value (first s) ≡ true = grind (arith, nat_tests) in
    let key_size = length-append (key_text k) (codes " = " ++ (v ++ 10 ∷ rest)) in
    let value_size = length-append v (10 ∷ rest) in (
      s,
      rw same (skip_start s start),
      line_pair k v rest d is,
      omega (arith, key_size),
      omega (arith, key_size, value_size),
      rw same (grind (arith, nat_tests)),
    )

pub block_pair : (k v : List ℕ) (d : Data) → IsRead d v
    → Block (key_text k ++ (codes " = " ++ (v ++ 10 ∷ []))) ((([], k), key_value d) ∷ [])
block_pair k v d is = record {
  leads = λ rest. leads_below ([], k) (key_value d) _ rest (pair_turn k v rest d is);
}

pub block_header : (key : Key) → length key.0 < 80
    → Block (91 ∷ (dotted_text key ++ codes "]\n")) ((key, std_table) ∷ [])
block_header key short = record {
  leads = λ rest. leads_below key std_table _ rest (line_turn false false _ _ _ rest refl short);
}

ends : (o : Option Document) (n : ℕ) → 1 < n
    → option_and_then (λ next. lines n next (10 ∷ [])) o ≡ o
unfolding skip_from
ends o n some = grind (arith, lines_end)

document_is : (text : List ℕ) (o : Option Document) → (first text == 0xEF) ≡ false
    → lines (suc (length text)) (no_nodes, []) text ≡ o
    → parse_document text ≡ option_map (λ doc. close doc.0) o
unfolding parse_document skip_bom
document_is text o other is = rw (other, is) refl

-- a document below a comment
pub read_document : (title text : List ℕ) (es : List Expression)
    → list_all is_non_eol title ≡ true → Block text es
    → parse_document (35 ∷ (title ++ 10 ∷ text))
    ≡ option_map (λ doc. close doc.0) (run (no_nodes, []) es)
read_document title text es h block =
    let whole = 35 ∷ (title ++ 10 ∷ text) in
    let titled : Leads whole [] (10 ∷ (text ++ [])) =
    leads_skip _ _ (above_all title text h) (grind (arith, common_steps)) in
    let (n, some, all) =
    leads_then whole _ _ [] es titled (block.leads []) (suc (length whole)) (omega arith) in
    document_is whole _ refl (all (no_nodes, []) ∙ ends _ n some)
