use Rattle.std.proofs.Common.{[], ◌∷◌, ◌++◌, ◌∙◌, ◌≡◌, List, ℕ, ap, arith, length, sym}
use Rattle.service_descriptions.proofs.Lines.{same_service}
use Rattle.log_lines.proofs.line.service_of.Goals as goal

pub returns-in_default : goal.returns-in_default
returns-in_default c l p e = c.in_default.ensures.none _ e

pub returns-in_default-service_before : goal.returns-in_default-service_before
returns-in_default-service_before c l p e =
    c.in_default-service_before.ensures (l, []) p
    (c.deref.ensures.value ∙ (c.in_ok-push.ensures.items
    ∙ ap (λ (t : List ℕ). t ++ 10 ∷ []) (c.in_ok-whole.ensures.items ∙ e)))

pub returns-then-not-is_empty : goal.returns-then-not-is_empty
returns-then-not-is_empty c l p e =
    let found = c.in-Some-service_before in
    let whole =
    sym found.ensures.1 ∙ (c.deref.ensures.value ∙ (c.in_ok-push.ensures.items
    ∙ ap (λ (t : List ℕ). t ++ 10 ∷ []) (c.in_ok-whole.ensures.items ∙ e))) in
    let n : length found.rest.now ≡ 0 =
    ap (length {A = ℕ})
    (same_service found.service l found.rest.now [] found.ensures.0 p whole).1 in
    absurd (grind (arith, n, c.if-not-is_empty.true, c.if-not-is_empty.ensures))
