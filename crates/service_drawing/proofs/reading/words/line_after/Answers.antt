use Rattle.std.proofs.Common.{◌≡◌, ◌++◌, ◌∙◌, sym, append_assoc, rules}
use Rattle.std.proofs.lemmas.List.{append_cancel_left}
use Rattle.service_drawing.proofs.Words.{line_one}
use Rattle.service_drawing.proofs.reading.words.line_after.Goals as goal

pub returns-in_err-text-clause-line : goal.returns-in_err-text-clause-line
returns-in_err-text-clause-line c =
    rw c.from_residual-in_err-text.ensures (λ text rest l.
    let same = line_one c.in_ok-line.line.now _ c.in_ok-line.rest.now rest c.args.bytes.now
    (search rules) l in
    let begun = same.0 ∙ append_assoc c.args.prefix.now c.args.word.now text in
    c.in_err-text.ensures.none (c.args.word.now ++ text) (search rules))

pub returns-in_err-text-2-clause-line : goal.returns-in_err-text-2-clause-line
returns-in_err-text-2-clause-line c =
    rw c.from_residual-in_err-text-2.ensures (λ text rest l.
    let word = c.args.word.now in
    let same = line_one c.in_ok-line.line.now _ c.in_ok-line.rest.now rest c.args.bytes.now
    (search rules) l in
    let prefix : c.in_ok-line.line.now ≡ c.args.prefix.now ++ c.in_ok-text.text.now =
    search rules in
    let more = append_cancel_left c.args.prefix.now c.in_ok-text.text.now (word ++ text)
    (sym prefix ∙ same.0 ∙ append_assoc c.args.prefix.now word text) in
    c.in_err-text-2.ensures.none text (search rules))
