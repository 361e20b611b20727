use Rattle.std.proofs.Common.{◌≡◌, ◌-◌, ◌==◌, true, false, Some, ap, ◌∙◌, le_refl, refl, rules, arith}
use Rattle.std.proofs.lemmas.Grind.{common_steps}
use Rattle.toml_parser.specs.Lexical.{first}
use Rattle.toml_positions.proofs.Passed.{elements_turn, found_at}
use Rattle.toml_positions.proofs.expression.+value.Goals as goal

pub after_elements-elements-init : goal.after_elements-elements-init
after_elements-elements-init c c' = (search rules, le_refl _, λ n h. (n, h, refl))

pub after_elements-returns-then-first-closing-clause-value :
    goal.after_elements-returns-then-first-closing-clause-value
after_elements-returns-then-first-closing-clause-value c c' n h =
    let (m, room, same) = c'.elements.invariant.2 n h in
    let closed : (first c'.skip_blank-start.result.now == c'.args.closing) ≡ true =
    grind (arith, common_steps) in
    let turn = elements_turn _ _ m _ _ _ (omega arith) c'.skip_blank-start.ensures.rest same in
    ap Some c'.skip.ensures.rest ∙ (rw closed at turn)

pub after_elements-returns-in_default-clause-value :
    goal.after_elements-returns-in_default-clause-value
after_elements-returns-in_default-clause-value c c' n h =
    let (m, room, same) = c'.elements.invariant.2 n h in
    let open_ : (first c'.skip_blank-start.result.now == c'.args.closing) ≡ false =
    grind (arith, common_steps) in
    let turn = elements_turn _ _ m _ _ _ (omega arith) c'.skip_blank-start.ensures.rest same in
    let none = found_at _ _ _ c'.in_ok-next.ensures.value c'.in_default.is in
    rw (open_, none) at turn

pub after_elements-elements-preserved : goal.after_elements-elements-preserved
after_elements-elements-preserved c c' =
    let open_ : (first c'.skip_blank-start.result.now == c'.args.closing) ≡ false =
    grind (arith, common_steps) in
    let before = c'.skip_blank-start.ensures.within in
    let shorter = rw c'.in-Some.is at c'.in_ok-next.ensures.shorter in (
      search rules,
      omega (arith, c'.elements.invariant.1),
      λ n h.
          let (m, room, same) = c'.elements.invariant.2 n h in
          let turn =
          elements_turn _ _ m _ _ _ (omega arith) c'.skip_blank-start.ensures.rest same in
          let next = found_at _ _ _ c'.in_ok-next.ensures.value c'.in-Some.is in
          (m - 1, omega arith, rw (open_, next) at turn),
    )
