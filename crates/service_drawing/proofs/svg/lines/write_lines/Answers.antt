use Rattle.service_drawing.proofs.Pictures.{next_end, next_line}
use Rattle.service_drawing.proofs.svg.lines.write_lines.Goals as goal

pub loop-i-preserved : goal.loop-i-preserved
loop-i-preserved c = record {
  drawn = next_line c.args.face c.loop-i.top c.below-top.result c.div_ceil-lines.result c.loop-i.i
      c.loop-i.rest.now c.split_at.result.1.now _ _ _ c.loop-i-test.true c.below-top.ensures
      (rw c.min.ensures at c.split_at.ensures.back)
      (rw (c.split_at.ensures.front, c.min.ensures) at c.in_ok-write_line.ensures)
      c.loop-i.invariant.drawn;
  end = next_end c.args.face c.loop-i.top c.below-top.result c.div_ceil-lines.result c.loop-i.i _
      c.loop-i-test.true c.below-top.ensures c.loop-i.invariant.end;
}
