-- What a text that is TOML goes on with, a line at a time.
use Rattle.std.proofs.Common.{◌≡◌, ℕ, zero, suc, ◌-◌, ◌<◌, ◌==◌, Bool, true, false, List, [], ◌∷◌, ◌++◌, length, append_assoc, Option, Some, None, option_and_then, IsSome, refl, ◌∙◌, arith}
use Rattle.std.specs.Prelude.{if◌then◌else◌, option_map}
use Rattle.std.proofs.lemmas.Bool.{false≢true}
use Rattle.std.proofs.lemmas.Bool.Decides.{nat_tests}
use Rattle.std.proofs.lemmas.Option.{none-some, option_and_then_some}
use Rattle.toml_parser.specs.Lexical.{Read, skip_blank, skip_ws}
use Rattle.toml.specs.Tables.{Document, Expression, define, no_nodes, close}
use Rattle.toml.specs.Parse.{line, lines, expression, ends_line, skip_bom, parse_document}
use Rattle.toml_parser.specs.Strings.{Key}
use Rattle.toml_positions.specs.Written.{Written, written, written_below, seen, path_below, header_after, past_brackets}

-- a text that goes on with a line
pub record Line (m : ℕ) (doc final : Document) (text : List ℕ) : Type 0 where
  pub e : Expression
  pub after : List ℕ
  pub next : Document
  pub some : 0 < m
  pub read : line (skip_blank text) ≡ Some (e, after)
  pub rest : lines (m - 1) next after ≡ Some final

pub line_of : (m : ℕ) (doc final : Document) (text : List ℕ)
    → (length (skip_blank text) == 0) ≡ false → lines m doc text ≡ Some final
    → Line m doc final text
unfolding lines
line_of zero doc final text other is = absurd (none-some final is)
line_of (suc m) doc final text other is =
    let less : suc m - 1 ≡ m = omega arith in
    option_and_then_some
    (λ e. option_and_then (λ next. lines m next e.1) (define doc e.0)) (line (skip_blank text))
    final (rw other at is) (λ e read more.
    option_and_then_some (λ next. lines m next e.1) (define doc e.0) final more
    (λ next made rest. record {
      e = e.0;
      after = e.1;
      next = next;
      some = omega arith;
      read = read;
      rest = rw less rest;
    }))

ended : (text : List ℕ) (r e : Expression × List ℕ) (b : Bool) → expression text ≡ Some r
    → (if b then Some r else None) ≡ Some e → expression text ≡ Some e
ended text r e true read is = read ∙ is
ended text r e false read is = absurd (none-some e is)

-- a line begins with its expression
pub line_expression : (text : List ℕ) (e : Expression × List ℕ) → line text ≡ Some e
    → expression text ≡ Some e
unfolding line
line_expression text e is =
    option_and_then_some (λ r. if ends_line (skip_ws r.1) then Some r else None)
    (expression text) e is (λ r read ends. ended text r e (ends_line (skip_ws r.1)) read ends)

some_of : {A B : Type 0} (f : A → B) (o : Option A) → IsSome (option_map f o)
    → (x : A) × (o ≡ Some x)
some_of f None h = absurd (false≢true h)
some_of f (Some x) h = (x, refl)

-- a text that is TOML is read to its end
pub document_lines : (text : List ℕ) → IsSome (parse_document text)
    → (final : Document) × (lines (suc (length text)) (no_nodes, []) (skip_bom text) ≡ Some final)
unfolding parse_document
document_lines text some = some_of (λ doc. close doc.0) _ some

pub not_empty : (n k : ℕ) → k < n → (n == 0) ≡ false
not_empty n k less = grind (arith, nat_tests)

pub no_line : (o : Read Expression) → ((e : Expression × List ℕ) → o ≡ Some e → ⊥) → o ≡ None
no_line None refuted = refl
no_line (Some e) refuted = absurd (refuted e refl)

-- one expression more
below : (text : List ℕ) (m : ℕ) (header : List (List ℕ)) (left after : List ℕ) (e : Expression)
    → 0 < m → line (skip_blank left) ≡ Some (e, after)
    → written_below text m header left
    ≡ written (length text - length (past_brackets (skip_blank left))) (path_below header (seen e))
    (seen e).1
    ∷ written_below text (m - 1) (header_after header (seen e)) after
unfolding written_below
below text zero header left after e some read = absurd (omega arith)
below text (suc m) header left after e some read =
    let less : suc m - 1 ≡ m = omega arith in rw (read, less) refl

pub none_below : (text : List ℕ) (m : ℕ) (header : List (List ℕ)) (left : List ℕ)
    → line (skip_blank left) ≡ None → written_below text m header left ≡ []
unfolding written_below
none_below text zero header left none = refl
none_below text (suc m) header left none = rw none refl

-- the header in force below an expression, by its path
pub next_header : (header : List (List ℕ)) (key : Key) (pair : Bool)
    → (if pair then header else path_below header (key, pair)) ≡ header_after header (key, pair)
next_header header key true = refl
next_header header key false = refl

pub same_written : (a b : ℕ) (p q : List (List ℕ)) (x y : Bool) → a ≡ b → p ≡ q → x ≡ y
    → written a p x ≡ written b q y
same_written a b p q x y e f g = cc

-- where one expression more was read, the others are still to come
pub one_more : (text : List ℕ) (m : ℕ) (header next : List (List ℕ)) (left after rest : List ℕ)
    (e : Expression) (w : Written) (done new whole : List Written) → 0 < m
    → line (skip_blank left) ≡ Some (e, rest)
    → w
    ≡ written (length text - length (past_brackets (skip_blank left)))
    (path_below header (seen e)) (seen e).1
    → next ≡ header_after header (seen e) → after ≡ rest → new ≡ done ++ w ∷ []
    → done ++ written_below text m header left ≡ whole
    → new ++ written_below text (m - 1) next after ≡ whole
one_more text m header next left after rest e w done new whole some read is next_is after_is added
    before =
    let all = rw (below text m header left rest e some read) at before in
    rw (added, is, next_is, after_is) (append_assoc done _ _ ∙ all)
