use Rattle.histories.proofs.Words.{[], take, FromOne, Gathers, IsDropped}
use Rattle.histories.proofs.close.dropped_all.Given as goal

abbrev pub invariant-loop-config : goal.invariant-loop-config
invariant-loop-config g l =
    Gathers (FromOne (IsDropped l.slot) (take l.config-index l.configs)) [] l.dropped
