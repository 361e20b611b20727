use Rattle.history_logs.proofs.Words.{AreLinesTo}
use Rattle.history_logs.proofs.logs.judging.lines_made.Given as goal

abbrev pub invariant-loop-slot : goal.invariant-loop-slot
invariant-loop-slot l = AreLinesTo l.begins l.slots l.waiting l.slot l.lines.items
