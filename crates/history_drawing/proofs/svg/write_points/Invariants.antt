use Rattle.std.proofs.Common.{◌≡◌, ◌++◌, string_bytes, take}
use Rattle.std.specs.List.{flat_map}
use Rattle.history_drawing.specs.Svg.{point_text}
use Rattle.history_drawing.proofs.svg.write_points.Given as goal

abbrev pub invariant-loop-point : goal.invariant-loop-point
invariant-loop-point l = string_bytes l.out ≡ string_bytes l.initial.out
    ++ flat_map (point_text l.bars) (take l.point-index l.points)
