use Rattle.std.proofs.Common.{◌≡◌, ◌++◌, string_bytes, take}
use Rattle.history_drawing.specs.Svg.{lines_text}
use Rattle.history_drawing.proofs.svg.frame.write_lines.Given as goal

abbrev pub invariant-loop-line : goal.invariant-loop-line
invariant-loop-line l = string_bytes l.out ≡ string_bytes l.initial.out
    ++ lines_text l.below l.empty (take l.line-index l.lines)
