-- What comes of what was found in a line.
use Rattle.std.proofs.Common.{◌≡◌, ◌≢◌, ℕ, List, ◌++◌, Some, None, refl, sym, ◌∙◌}
use Rattle.std.specs.Prelude.{IfNone, IfOk, IfSome, Option, Result, Ok, Err}
use Rattle.std.specs.Option.{option_map}
use Rattle.line_streams.specs.Spelling.{Reads}
use Rattle.log_lines.specs.declared.line.LogLine.{LogLine}
use Rattle.log_lines.specs.Lines.{HasNone, IsLine, IsLineOf, Line, line_seen, line_text, name_text}

-- where nothing was found, this follows from that
pub none_so : {X E : Type 0} (P Q : Type 0) (found : Result (Option X) E)
    → IfOk found (λ f. IfNone f P) → (P → Q) → IfOk found (λ f. IfNone f Q)
none_so P Q (Ok (Some x)) h f = h
none_so P Q (Ok None) h f = f h
none_so P Q (Err e) h f = h

-- the line is the one that was found of the caller, if one was
pub ends_so : (line text : List ℕ) (found : Option LogLine) → line ≡ text
    → IfSome found (λ l. IsLine (line_seen l) × (text ≡ line_text (line_seen l)))
    → (found ≡ None → (l : Line) → IsLine l → line ≢ line_text l)
    → Reads IsLine line_text (option_map line_seen found) line
ends_so line text None is some none = none refl
ends_so line text (Some l) is some none = (some.0, is ∙ some.1)

-- the line is the one that was found on the service, if one was
pub reads_so : {E : Type 0} (line text : List ℕ) (number : Option ℕ)
    (found : Result (Option LogLine) E) → line ≡ name_text number ++ text
    → IfOk found (λ f. IfSome f (λ l. IsLineOf number text (line_seen l)))
    → IfOk found (λ f. IfNone f (HasNone text))
    → (HasNone text → (l : Line) → IsLine l → line ≢ line_text l)
    → IfOk found (λ f. Reads IsLine line_text (option_map line_seen f) line)
reads_so line text number (Ok (Some l)) is some none f = (some.0, is ∙ sym some.1)
reads_so line text number (Ok None) is some none f = f none
reads_so line text number (Err e) is some none f = none
