use Rattle.std.proofs.Common.{◌≡◌, reverse, length}
use Rattle.iox2_config_file.specs.Depth.{close_key}
use Rattle.iox2_config_file.proofs.depth.pop_dots.Given as goal

-- the dots so far do not count
abbrev pub invariant-loop-marks : goal.invariant-loop-marks
invariant-loop-marks l = close_key (reverse l.marks.items) ≡ close_key (reverse l.fn.marks.items)

abbrev pub decreases-loop-marks : goal.decreases-loop-marks
decreases-loop-marks l = length l.marks.items
