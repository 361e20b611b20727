use Rattle.history_logs.proofs.Words.{MayFollowAt, arith, rules, ℕ}
use Rattle.std.proofs.Common.{below_more}
use Rattle.history_logs.proofs.Settled.{over_upto}
use Rattle.history_logs.proofs.logs.settling.count_settled.Goals as goal

pub loop-at-init : goal.loop-at-init
loop-at-init c = λ k below. absurd (omega (arith, below))

pub loop-at-preserved : goal.loop-at-preserved
loop-at-preserved c =
    below_more (λ (k : ℕ). MayFollowAt c.args.service.now k) c.loop-at.at c.loop-at.invariant
    (c.may_follow.ensures (search rules))

pub returns-then-not-may_follow-clause-over : goal.returns-then-not-may_follow-clause-over
returns-then-not-may_follow-clause-over c =
    over_upto c.args.service.now c.loop-at.at c.loop-at.invariant

pub returns-clause-over : goal.returns-clause-over
returns-clause-over c =
    over_upto c.args.service.now _ (λ k below.
    c.loop-at.invariant k (omega (arith, below, c.loop-at-test.false)))
