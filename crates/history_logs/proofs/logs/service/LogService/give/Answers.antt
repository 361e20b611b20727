use Rattle.history_logs.proofs.Words.{IfOk-weaker, length, nil_from_length, rules, service_of, state_seen, ◌≡◌}
use Rattle.history_logs.proofs.Starting.{starts_of}
use Rattle.history_logs.proofs.logs.service.LogService.give.Goals as goal

pub returns : goal.returns
returns c =
    let s = service_of c.self.inside in
    let none : length s.calls ≡ 0 = search rules in
    rw (← c.self.view_is)
    (IfOk-weaker _ _ _
    (λ may b. starts_of s (state_seen c.args.given) _ may (nil_from_length s.calls none) b)
    c.give.ensures)
