use Rattle.service_drawing.proofs.Pictures.{next_row, next_row_end}
use Rattle.service_drawing.proofs.svg.message.write_rows.Goals as goal

pub loop-row-preserved : goal.loop-row-preserved
loop-row-preserved c = record {
  drawn = next_row c.args.rows.now c.loop-row.row-index c.args.top c.loop-row.top
      c.row-item.result _ _ _ c.loop-row-test.true c.row-item.is c.loop-row.invariant.drawn
      c.loop-row.invariant.end c.in_ok-top.ensures.drawn;
  end = next_row_end c.args.rows.now c.loop-row.row-index c.args.top c.loop-row.top c.in_ok-top.top
      c.row-item.result c.loop-row-test.true c.row-item.is c.loop-row.invariant.end
      c.in_ok-top.ensures.end;
}
