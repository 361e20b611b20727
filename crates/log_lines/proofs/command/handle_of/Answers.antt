use Rattle.std.proofs.Common.{[], ◌++◌, List, ℕ, codes, decimal, arith, refl, ap, sym, ◌∙◌}
use Rattle.std.proofs.lemmas.List.{append-nil}
use Rattle.log_lines.proofs.command.handle_of.Goals as goal

pub returns-in_default : goal.returns-in_default
returns-in_default c h p e =
    c.in_default.ensures.read ((h.0, (h.1, tt)), []) (
      (omega (arith, p.0), p.0, λ digit. omega arith),
      ((omega (arith, p.1), p.1, λ digit. omega arith), refl),
    )
    (e ∙ ap (λ (l : List ℕ). decimal h.0 ++ (codes " " ++ l)) (sym (append-nil (decimal h.1))))
