use Rattle.history_logs.proofs.FirstLines.{StandBefore}
use Rattle.history_logs.proofs.logs.judging.after_lines.Given as goal

abbrev pub invariant-loop : goal.invariant-loop
invariant-loop l = StandBefore l.fn.log l.counter l.rest
