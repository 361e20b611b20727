use Rattle.std.proofs.Common.{◌≡◌, ◌++◌, ◌-◌, string_bytes}
use Rattle.service_drawing.specs.Svg.{lines_end, lines_text}
use Rattle.service_drawing.proofs.svg.lines.write_lines.Given as goal

abbrev pub invariant-loop-i : goal.invariant-loop-i
invariant-loop-i l = record {
  drawn : string_bytes l.out ++ lines_text l.face l.top (l.lines - l.i) l.rest
      ≡ string_bytes l.initial.out ++ lines_text l.face l.initial.top l.lines l.initial.rest;
  end : lines_end l.face l.top (l.lines - l.i) ≡ lines_end l.face l.initial.top l.lines;
}
