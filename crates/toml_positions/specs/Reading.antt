-- What is read where a text is TOML: expressions, of whose values only the end is looked for.
use Rattle.std.specs.Prelude.{ℕ, zero, suc, ◌<◌, ◌==◌, if◌then◌else◌, Bool, true, List, drop, length, Option, Some, None, option_map, option_and_then, Result, IfOk, IfSome}
use Rattle.std.specs.declared.alloc.AllocError.{AllocError}
use Rattle.std.specs.Borrow.{Bor}
use Rattle.toml_parser.specs.Lexical.{first, left_bracket, right_bracket, left_brace, right_brace, skip_blank}
use Rattle.toml_parser.specs.Reading.{key_view}
use Rattle.toml_parser.specs.Strings.{Key, recursion_limit}
use Rattle.toml.specs.Parse.{after_element, atom, expression, key_equals}
use Rattle.toml.specs.Tables.{Expression}
use Rattle.toml_positions.specs.Written.{seen}
use Rattle.toml_positions.specs.declared.expression.Head.{Head}

-- less text is left
abbrev pub Shortens : {A : Type 0} → (A → List ℕ) → List ℕ → Result (Option A) AllocError → Type 0
Shortens rest text result = IfOk result (λ o. IfSome o (λ p. length (rest p) < length text))

-- what follows a string or a scalar
abbrev pub past_atom : List ℕ → Option (List ℕ)
past_atom text = option_map (λ p. p.1) (atom text)

-- what closes an array or an inline table that the byte opens
abbrev pub closing_of : ℕ → Option ℕ
closing_of byte =
    if byte == left_bracket then Some right_bracket
    else if byte == left_brace then Some right_brace else None

-- where the value of an element begins: in an inline table behind its key
abbrev pub element_value : ℕ → List ℕ → Option (List ℕ)
element_value closing text =
    if closing == right_brace then option_map (λ p. p.1) (key_equals text) else Some text

-- what follows an element, and the comma behind it
abbrev pub past_element : (List ℕ → Option (List ℕ)) → ℕ → List ℕ → Option (List ℕ)
past_element past closing text =
    option_and_then (after_element closing) (option_and_then past (element_value closing text))

-- what follows the elements of an array or of an inline table, at most n, and its closing bracket
unfoldable pub past_elements : (List ℕ → Option (List ℕ)) → ℕ → ℕ → List ℕ → Option (List ℕ)
past_elements past closing zero text = None
past_elements past closing (suc n) text =
    let start = skip_blank text in
    if first start == closing then Some (drop 1 start)
    else option_and_then (past_elements past closing n) (past_element past closing start)

-- what follows a value with arrays and inline tables at most so deep
unfoldable pub past_value : ℕ → List ℕ → Option (List ℕ)
past_value zero text =
    elim (closing_of (first text)) [ None ↦ past_atom text | Some closing ↦ None ]
past_value (suc depth) text =
    elim (closing_of (first text)) [
      | None ↦ past_atom text
      | Some closing ↦ past_elements (past_value depth) closing (length text) (drop 1 text)
    ]

-- the key of an expression, whether it is a pair, and what follows it
abbrev pub head_view : Head × Bor (List ℕ) → (Key × Bool) × List ℕ
head_view p = ((key_view p.0.key, p.0.pair), p.1.now)

abbrev pub seen_view : Expression × List ℕ → (Key × Bool) × List ℕ
seen_view p = (seen p.0, p.1)

-- the expression that a text begins with
abbrev pub seen_in : List ℕ → Option ((Key × Bool) × List ℕ)
seen_in text =
    if first text == left_bracket then option_map seen_view (expression text)
    else
    option_and_then (λ k. option_map (λ rest. ((k.0, true), rest)) (past_value recursion_limit k.1))
    (key_equals text)
