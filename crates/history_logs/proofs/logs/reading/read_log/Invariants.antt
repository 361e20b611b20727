use Rattle.history_logs.proofs.Words.{AddsCounts, AreNumbers, length, log_of}
use Rattle.history_logs.proofs.Above.{IsAbove}
use Rattle.history_logs.proofs.logs.reading.read_log.Given as goal

abbrev pub invariant-loop-text : goal.invariant-loop-text
invariant-loop-text g l =
    IsAbove l.fn.log (log_of l.reading) l.rest l.line
    × AddsCounts (g.P.Progress.contents l.fn.progress) (g.P.Progress.contents l.progress)
    × AreNumbers l.reading.numbers l.reading.services.items

abbrev pub decreases-loop-text : goal.decreases-loop-text
decreases-loop-text g l = length l.rest
