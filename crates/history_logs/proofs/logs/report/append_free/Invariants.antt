use Rattle.history_logs.proofs.Words.{drop, ◌++◌, ◌≡◌}
use Rattle.history_logs.specs.Reports.{free_text}
use Rattle.history_logs.proofs.logs.report.append_free.Given as goal

abbrev pub invariant-loop-slot : goal.invariant-loop-slot
invariant-loop-slot l = l.out.items
    ++ free_text l.before l.from (drop l.slot-index l.taken) l.capacity
    ≡ l.fn.out.items ++ free_text 32 0 l.taken l.capacity
