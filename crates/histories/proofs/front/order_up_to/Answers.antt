use Rattle.histories.proofs.Words.{◌≡◌, ◌<◌, ◌+◌, ◌-◌, ◌++◌, ◌∙◌, List, ℕ, ap, append-nil, arith, length, reverse, sym, get_or_default, read}
use Rattle.histories.proofs.Lists.{read_bounded, read_more, read_zero}
use Rattle.histories.proofs.front.order_up_to.Goals as goal

pub loop-left-init : goal.loop-left-init
loop-left-init c = grind (arith, read_bounded, append-nil)

pub loop-left-preserved : goal.loop-left-preserved
loop-left-preserved c =
    let links = c.args.links.now in
    let at = c.loop-left.left - 1 in
    let next = c.bounded-left-in-loop-left.result in
    let order = c.loop-left.order.items in
    let back : c.loop-left.left ≡ at + 1 = omega (arith, c.loop-left-test.true) in
    let within : at < length links = omega (arith, back, c.loop-left.invariant.1) in (
      rw c.in_ok-push.ensures.items (read_more _ _ at next _ order within
          (get_or_default links at _ _ within)
          c.bounded-left-in-loop-left.ensures.within c.bounded-left-in-loop-left.ensures.above
          (rw back at c.loop-left.invariant.0)),
      omega (arith, c.bounded-left-in-loop-left.ensures.bound, within),
    )

pub returns : goal.returns
returns c =
    let links = c.args.links.now in
    let order = c.loop-left.order.items in
    let none : c.loop-left.left ≡ 0 = omega (arith, c.loop-left-test.false) in
    c.reverse.ensures.items ∙ sym (c.loop-left.invariant.0
    ∙ (ap (λ n. read links n ++ reverse order) none
    ∙ ap (λ (o : List ℕ). o ++ reverse order) (read_zero _)))
