use Rattle.history_logs.proofs.Words.{IfOk-weaker, ap, arith, length, rules, ◌≤◌}
use Rattle.history_logs.proofs.Conforming.{right_after, right_none}
use Rattle.history_logs.proofs.logs.settling.is_explained.Goals as goal

pub returns-then-not-has_calls : goal.returns-then-not-has_calls
returns-then-not-has_calls c = λ yes. right_none _ _ (search rules)

pub returns : goal.returns
returns c =
    let all : length c.args.service.now.events ≤ length c.events.result.now =
    omega (arith, ap length c.events.ensures) in
    IfOk-weaker c.go_short.result _ _ (λ yes goes t s o k.
    right_after _ _ _ (length c.events.result.now) all (goes t) s o (c.in_ok-last.ensures s o k))
    c.go_short.ensures
