use Rattle.std.proofs.Common.{◌≡◌, ◌+◌, length}
use Rattle.iox2_config_file.specs.Depth.{begin, found_from}
use Rattle.iox2_config_file.proofs.depth.too_deep.Given as goal

-- what is found in the rest is found in the whole, behind the bytes that were passed
abbrev pub invariant-loop-byte : goal.invariant-loop-byte
invariant-loop-byte l =
    (found_from begin 0 l.fn.text ≡ found_from l.scan l.before l.rest)
    × (l.before + length l.rest ≡ length l.fn.text)

abbrev pub decreases-loop-byte : goal.decreases-loop-byte
decreases-loop-byte l = length l.rest
