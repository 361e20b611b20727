use Rattle.history_logs.proofs.Needing.{IdleTo}
use Rattle.history_logs.proofs.logs.needed.idle_calls.Given as goal

abbrev pub invariant-loop-number : goal.invariant-loop-number
invariant-loop-number l = IdleTo l.calls l.number l.idle.items
