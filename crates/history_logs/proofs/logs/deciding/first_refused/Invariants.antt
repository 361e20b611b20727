use Rattle.history_logs.proofs.Words.{◌-◌, ◌<◌}
use Rattle.history_logs.proofs.FirstLines.{StandsBetween}
use Rattle.history_logs.proofs.logs.deciding.first_refused.Given as goal

abbrev pub invariant-loop-line : goal.invariant-loop-line
invariant-loop-line l = record {
  between : StandsBetween l.log l.above l.line l.found;
  some : 0 < l.step;
  next : 0 < l.next_step;
}

abbrev pub decreases-loop-line : goal.decreases-loop-line
decreases-loop-line l = l.line - l.above
