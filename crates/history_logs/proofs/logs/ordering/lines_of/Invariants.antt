use Rattle.history_logs.proofs.Words.{AllZip, BeginsAt, take}
use Rattle.history_logs.proofs.logs.ordering.lines_of.Given as goal

abbrev pub invariant-loop-call : goal.invariant-loop-call
invariant-loop-call l =
    AllZip (BeginsAt l.begins) (take l.call-index l.calls) l.lines.items
