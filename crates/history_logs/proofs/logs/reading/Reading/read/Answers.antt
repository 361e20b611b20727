use Rattle.history_logs.proofs.Words.{log_of, rules}
use Rattle.history_logs.proofs.Refused.{bad_line, bad_return}
use Rattle.history_logs.proofs.logs.reading.Reading.read.Goals as goal

pub returns-then-ends_in_return-clause-read : goal.returns-then-ends_in_return-clause-read
returns-then-ends_in_return-clause-read c =
    bad_return (log_of c.args.self.now) (log_of c.go.new.self) _ _
    _ (search rules) (search rules) (rw c.in-Some.is at c.in_ok-expected.ensures.takes)

pub returns-clause-read : goal.returns-clause-read
returns-clause-read c =
    bad_line (log_of c.args.self.now) (log_of c.go.new.self) _ _
    _ (search rules) (search rules) (rw c.in-Some.is at c.in_ok-expected.ensures.takes)
