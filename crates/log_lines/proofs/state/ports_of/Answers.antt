use Rattle.std.proofs.Common.{[], ◌++◌, List, ℕ, codes, decimal, arith, refl, ap, sym, ◌∙◌}
use Rattle.std.proofs.lemmas.List.{append-nil}
use Rattle.service_descriptions.specs.Lines.{role_word}
use Rattle.log_lines.proofs.state.ports_of.Goals as goal

pub returns-in_default : goal.returns-in_default
returns-in_default c given p e =
    c.in_default.ensures.read ((given.0, (given.1, tt)), [])
    (p.0, ((omega (arith, p.1), p.1, λ digit. omega arith), refl))
    (e ∙ ap (λ (l : List ℕ). role_word given.0 ++ (codes " " ++ l))
    (sym (append-nil (decimal given.1))))
