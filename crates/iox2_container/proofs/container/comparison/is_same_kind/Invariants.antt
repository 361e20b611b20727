use Rattle.iox2_container.proofs.Prelude.{AgreesBy, AllZip, length, ◌↔◌}
use Rattle.iox2_container.proofs.container.comparison.is_same_kind.Given as goal

abbrev pub invariant-loop-one : goal.invariant-loop-one
invariant-loop-one g l =
    AllZip (AgreesBy g.T.PartialEq.eq) l.ones l.others
    ↔ AllZip (AgreesBy g.T.PartialEq.eq) l.ones_left l.others_left

abbrev pub decreases-loop-one : goal.decreases-loop-one
decreases-loop-one g l = length l.ones_left
