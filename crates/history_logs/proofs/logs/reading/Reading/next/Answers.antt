use Rattle.history_logs.proofs.Words.{None, call, log_of, named, rules, ◌≡◌}
use Rattle.log_lines.specs.Commands.{HasText, command_text}
use Rattle.history_logs.proofs.Refused.{taken}
use Rattle.history_logs.proofs.logs.reading.Reading.next.Goals as goal

pub returns-in-Some-clause-takes : goal.returns-in-Some-clause-takes
returns-in-Some-clause-takes c =
    let command = named c.in-Some.command in
    let p : HasText command = search rules in
    let is : c.args.text.now ≡ command_text command = search rules in
    taken (log_of c.args.self.now) (log_of c.call.new.self) _ _ (call None command) _ (tt, p) is
    (λ empty. absurd (search rules)) (c.call.ensures.does c.args.line)
