use Rattle.std.proofs.Common.{◌≡◌, ◌++◌, string_bytes, take}
use Rattle.std.specs.List.{flat_map}
use Rattle.history_drawing.specs.Svg.{bar_text}
use Rattle.history_drawing.proofs.svg.write_bars.Given as goal

abbrev pub invariant-loop-bar : goal.invariant-loop-bar
invariant-loop-bar l = string_bytes l.out ≡ string_bytes l.initial.out
    ++ flat_map (bar_text l.bars l.refused) (take l.bar-index l.bars)
