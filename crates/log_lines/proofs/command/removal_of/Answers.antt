use Rattle.std.proofs.Common.{[], ◌++◌, List, ℕ, codes, decimal, arith, refl, ap, sym, ◌∙◌}
use Rattle.std.proofs.lemmas.List.{append-nil}
use Rattle.service_descriptions.specs.Lines.{role_word}
use Rattle.log_lines.proofs.Parts.{no_deregister, no_handle, no_port, no_release, no_removal, other_word}
use Rattle.log_lines.proofs.command.removal_of.Goals as goal

pub returns-in_default-handle_of : goal.returns-in_default-handle_of
returns-in_default-handle_of c =
    let line = c.args.line.now in
    let word = c.in-Some in
    no_removal line
    (no_handle line word.rest.now word.ensures.some c.in_default-handle_of.ensures)
    (other_word line word.rest.now word.ensures.some)

pub returns-in_default-after_word : goal.returns-in_default-after_word
returns-in_default-after_word c =
    let line = c.args.line.now in
    no_removal line
    (no_deregister line c.in_default.ensures.none)
    (no_release line c.in_default-after_word.ensures.none)

pub returns-in_default-read : goal.returns-in_default-read
returns-in_default-read c =
    let line = c.args.line.now in
    let word = c.in-Some-after_word in
    no_removal line
    (no_deregister line c.in_default.ensures.none)
    (no_port line word.rest.now word.ensures.some
    (λ r slot ticket p h e. c.in_default-read.ensures.read ((r, (slot, (ticket, tt))), []) (
      p,
      (
        (omega (arith, h.0), h.0, λ digit. omega arith),
        ((omega (arith, h.1), h.1, λ digit. omega arith), refl),
      ),
    )
    (e ∙ ap (λ (l : List ℕ). role_word r ++ (codes " " ++ (decimal slot ++ (codes " " ++ l))))
    (sym (append-nil (decimal ticket))))))
