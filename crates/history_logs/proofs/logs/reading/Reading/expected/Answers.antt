use Rattle.history_logs.proofs.Words.{length, log_of, nil_from_length, rules, ◌≡◌}
use Rattle.history_logs.proofs.Refused.{wrong_none}
use Rattle.history_logs.proofs.logs.reading.Reading.expected.Goals as goal

pub returns-then-is_empty : goal.returns-then-is_empty
returns-then-is_empty c =
    let none : length c.args.self.now.services.items ≡ 0 = search rules in
    let empty = nil_from_length _ none in
    λ not. wrong_none (log_of c.args.self.now) c.args.text.now empty not
