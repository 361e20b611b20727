use Rattle.history_logs.proofs.Words.{flat_map, take, ◌++◌, ◌≡◌}
use Rattle.history_logs.proofs.logs.report.append_each.Given as goal

abbrev pub invariant-loop-item : goal.invariant-loop-item
invariant-loop-item g l =
    l.out.items ≡ l.fn.out.items ++ flat_map g.T.Reported.text (take l.item-index l.items)
