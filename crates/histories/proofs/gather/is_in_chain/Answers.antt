use Rattle.histories.proofs.Words.{◌-◌, arith, refl, sym}
use Rattle.histories.proofs.Chains.{following_head, following_more}
use Rattle.histories.proofs.gather.is_in_chain.Goals as goal

pub loop-left-init : goal.loop-left-init
loop-left-init g c =
    following_head g.M.Machine.hash _ _ _ _ _
    (rw c.chain_of.ensures at c.head_of-left.ensures) c.requires

pub loop-left-preserved : goal.loop-left-preserved
loop-left-preserved g c =
    (following_more g.M.Machine.hash _ _ _ _ _ _ _ _
    (omega (arith, c.loop-left-test.true)) refl c.index-configs-at.is
    (λ same. cc (c.is_same.ensures.1 same, c.if-is_same.false)) c.requires c.loop-left.invariant).0

pub loop-left-smaller : goal.loop-left-smaller
loop-left-smaller g c =
    (following_more g.M.Machine.hash _ _ _ _ _ _ _ _
    (omega (arith, c.loop-left-test.true)) refl c.index-configs-at.is
    (λ same. cc (c.is_same.ensures.1 same, c.if-is_same.false)) c.requires c.loop-left.invariant).1

pub returns-then-is_same-clause-yes : goal.returns-then-is_same-clause-yes
returns-then-is_same-clause-yes g c is = (
  c.index-configs-at.result,
  (
    c.loop-left.left - 1,
    omega (arith, c.loop-left-test.true, c.loop-left.invariant.within, c.requires.0),
    sym c.index-configs-at.is,
  ),
  c.is_same.ensures.0 c.if-is_same.true,
)
