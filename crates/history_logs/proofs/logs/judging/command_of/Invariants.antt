use Rattle.history_logs.proofs.FirstLines.{StandBefore, IsFoundIn}
use Rattle.history_logs.proofs.logs.judging.command_of.Given as goal

abbrev pub invariant-loop-above : goal.invariant-loop-above
invariant-loop-above l =
    StandBefore l.fn.log l.above l.rest × IsFoundIn l.fn.log l.above l.command
