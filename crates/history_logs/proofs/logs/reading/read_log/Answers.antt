use Rattle.history_logs.proofs.Words.{log_of, rules}
use Rattle.history_logs.proofs.Above.{above_more, above_new, read_bad, read_newline}
use Rattle.history_logs.proofs.Kept.{sane_of}
use Rattle.history_logs.proofs.Reports.{counts_more, no_counts}
use Rattle.history_logs.proofs.logs.reading.read_log.Goals as goal

pub loop-text-init : goal.loop-text-init
loop-text-init g c = (
  above_new _ (log_of c.new-reading.result) c.new-reading.ensures.services
      c.new-reading.ensures.callers c.new-reading.ensures.waits,
  no_counts (g.P.Progress.contents c.args.progress.now),
  c.new-reading.ensures.numbers,
)

pub returns-in-Some-2-clause-read : goal.returns-in-Some-2-clause-read
returns-in-Some-2-clause-read g c =
    read_bad c.args.log.now (log_of c.loop-text.reading) (log_of c.read.new.self)
    c.loop-text.rest.now c.loop-text.line c.in-Some.text.now c.in-Some.after.now
    c.in-Some-2.expected c.loop-text.invariant.0 (search rules) (search rules)
    (rw c.in-Some-2.is at c.in_ok-expected.ensures.read)

pub loop-text-preserved : goal.loop-text-preserved
loop-text-preserved g c = (
  above_more _ (log_of c.loop-text.reading) (log_of c.read.new.self) _ _ _ _
      c.loop-text.invariant.0 (search rules) (search rules)
      (rw c.in_default-2.is at c.in_ok-expected.ensures.read),
  counts_more _ _ _ c.loop-text.invariant.1 c.count.ensures,
  c.in_ok-expected.ensures.numbers,
)

pub returns-then-not-is_empty-clause-read : goal.returns-then-not-is_empty-clause-read
returns-then-not-is_empty-clause-read g c =
    read_newline _ (log_of c.loop-text.reading) _ _
    c.loop-text.invariant.0 (search rules) (search rules)

pub read-requires : goal.read-requires
read-requires g c = record {
  sane = sane_of (log_of c.loop-text.reading) c.loop-text.invariant.0.kept;
  numbers = c.loop-text.invariant.2;
}
