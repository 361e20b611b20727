use Rattle.history_logs.proofs.Words.{arith}
use Rattle.history_logs.proofs.FirstLines.{between_all, between_below, between_above, decided}
use Rattle.history_logs.proofs.logs.deciding.first_refused.Goals.{in-Some, in-None}
use Rattle.history_logs.proofs.logs.deciding.first_refused.Goals as goal

pub loop-line-init : goal.loop-line-init
loop-line-init c = record {
  between = between_all _ _ _ (omega arith) (omega arith) c.requires;
  some = omega arith;
  next = omega arith;
}

pub loop-line-preserved : goal.loop-line-preserved
loop-line-preserved c = record {
  between =
      elim c.match-branch-2.branch [
        | in-Some w ↦
            rw (w.found-is, w.above-is, w.line-is)
            (between_above _ _ _ _ _ c.loop-line.invariant.between _ (omega arith)
            (rw (c.first_lines.ensures, w.in-Some.is) at c.in_ok-refused.ensures))
        | in-None w ↦
            rw (w.found-is, w.above-is, w.line-is)
            (between_below _ _ _ _ _ c.loop-line.invariant.between (omega arith)
            (rw (c.first_lines.ensures, w.in-None.is) at c.in_ok-refused.ensures))
      ];
  some = c.loop-line.invariant.next;
  next = omega arith;
}

pub returns : goal.returns
returns c =
    decided _ _ _ _ (omega (arith, c.loop-line-test.false)) c.loop-line.invariant.between
    c.args.reported c.requires
