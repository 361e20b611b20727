-- Compatible details are ordered.
use Rattle.std.proofs.Common.{arith}
use Rattle.iox2_config.specs.Compatible.{IsCompatibleToItself, IsCompatibleThrough, AreEqualBothWays}

pub compatible_to_itself : IsCompatibleToItself
compatible_to_itself d = grind arith

pub compatible_through : IsCompatibleThrough
compatible_through a b c p q = grind arith

pub equal_both_ways : AreEqualBothWays
equal_both_ways a b p q = grind arith
