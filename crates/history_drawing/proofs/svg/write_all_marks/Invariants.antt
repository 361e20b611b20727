use Rattle.std.proofs.Common.{◌≡◌, ◌++◌, string_bytes, take}
use Rattle.std.specs.List.{flat_map}
use Rattle.history_drawing.specs.Svg.{marks_text}
use Rattle.history_drawing.proofs.svg.write_all_marks.Given as goal

abbrev pub invariant-loop-bar : goal.invariant-loop-bar
invariant-loop-bar l = string_bytes l.out ≡ string_bytes l.initial.out
    ++ flat_map (marks_text l.bars l.bottom) (take l.bar-index l.bars)
