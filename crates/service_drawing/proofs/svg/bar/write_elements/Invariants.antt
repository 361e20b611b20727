use Rattle.std.proofs.Common.{◌≡◌, ◌++◌, string_bytes}
use Rattle.std.specs.List.{flat_map, range_with_len}
use Rattle.service_drawing.specs.Bars.{element_text}
use Rattle.service_drawing.proofs.svg.bar.write_elements.Given as goal

abbrev pub invariant-loop-i : goal.invariant-loop-i
invariant-loop-i l = string_bytes l.out ≡ string_bytes l.initial.out
    ++ flat_map (element_text l.layout) (range_with_len 0 l.i)
