use Rattle.histories.proofs.Words.{rules, ◌≡◌, ◌+◌, ◌-◌, arith, inr}
use Rattle.histories.proofs.Closing.{closing_begin, closing_end, closing_more}
use Rattle.histories.proofs.close.close.Goals as goal

pub loop-left-init : goal.loop-left-init
loop-left-init g c =
    closing_more _ _ _ _ _ _ _ _ _ _ c.requires.few c.requires.taken.1 (closing_begin _ _ _ _)
    (λ new rest l over. inr l) (rw c.in_ok-done.ensures at c.in_ok-layer.ensures.0)
    c.in_ok-layer.ensures.1

pub loop-left-preserved : goal.loop-left-preserved
loop-left-preserved g c =
    let back : c.loop-left.left ≡ c.loop-left.left - 1 + 1 = omega (arith, c.loop-left-test.true) in
    closing_more _ _ _ _ _ _ _ _ _ _ c.requires.few c.requires.taken.1
    (rw back at c.loop-left.invariant.0)
    (c.loop-left.invariant.0.complete (λ many. absurd (omega (arith, many))))
    c.in_ok-layer-2.ensures.0 c.in_ok-layer-2.ensures.1

pub returns : goal.returns
returns g c =
    rw c.into_configs-done.ensures (closing_end _ _ _ _ _
    _ _ (omega (arith, c.loop-left-test.false)) c.loop-left.invariant.0)

pub returns-then-len-gt-MAX_CONFIGS-2 : goal.returns-then-len-gt-MAX_CONFIGS-2
returns-then-len-gt-MAX_CONFIGS-2 g c = (
  c.loop-left.done,
  search rules,
  c.loop-left.invariant.0.once,
  λ k has. (c.loop-left.invariant.0.sound k has).0,
)
