use Rattle.history_logs.proofs.Words.{ServiceLine, ap, rules}
use Rattle.history_logs.proofs.Named.{numbers_added}
use Rattle.history_logs.proofs.logs.reading.Reading.add_number.Goals as goal

pub returns-in_ok-insert-clause-numbers : goal.returns-in_ok-insert-clause-numbers
returns-in_ok-insert-clause-numbers c =
    let old = c.args.self.now in
    numbers_added old.numbers c.insert.new.self old.services.items c.args.known
    c.line.result.now.number c.index.result.now (search rules) c.requires.one c.index.ensures
    (ap (λ (l : ServiceLine). l.number) c.line.ensures) c.requires.numbers
    c.in_ok-insert.ensures.updates
