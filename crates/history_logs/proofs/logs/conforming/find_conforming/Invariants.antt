use Rattle.history_logs.proofs.Words.{AddsCounts, AreNumbers, length, log_of}
use Rattle.history_logs.proofs.Conforming.{IsShortAbove}
use Rattle.history_logs.proofs.logs.conforming.find_conforming.Given as goal

abbrev pub invariant-loop-text : goal.invariant-loop-text
invariant-loop-text g l =
    IsShortAbove l.fn.log (log_of l.reading) l.fronts.items l.rest l.line
    × AddsCounts (g.P.Progress.contents l.fn.progress) (g.P.Progress.contents l.progress)
    × AreNumbers l.reading.numbers l.reading.services.items

abbrev pub decreases-loop-text : goal.decreases-loop-text
decreases-loop-text g l = length l.rest
