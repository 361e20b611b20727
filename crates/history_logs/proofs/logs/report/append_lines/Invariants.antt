use Rattle.history_logs.proofs.Words.{flat_map, line_of, take, ◌++◌, ◌≡◌}
use Rattle.history_logs.proofs.logs.report.append_lines.Given as goal

abbrev pub invariant-loop-number : goal.invariant-loop-number
invariant-loop-number l = l.out.items ≡ l.fn.out.items
    ++ flat_map line_of (take l.number-index l.numbers)
