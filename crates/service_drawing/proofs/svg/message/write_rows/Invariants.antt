use Rattle.std.proofs.Common.{◌≡◌, ◌++◌, map, string_bytes, take}
use Rattle.service_drawing.specs.Layout.{row_view}
use Rattle.service_drawing.specs.Svg.{rows_end, rows_text}
use Rattle.service_drawing.proofs.svg.message.write_rows.Given as goal

abbrev pub invariant-loop-row : goal.invariant-loop-row
invariant-loop-row l = record {
  drawn : string_bytes l.out ≡ string_bytes l.initial.out
      ++ rows_text l.initial.top (map row_view (take l.row-index l.rows));
  end : l.top ≡ rows_end l.initial.top (map row_view (take l.row-index l.rows));
}
