use Rattle.histories.proofs.Words.{[], take, FromOne, Gathers, IsFirst}
use Rattle.histories.proofs.gather.start.Given as goal

abbrev pub invariant-loop-from : goal.invariant-loop-from
invariant-loop-from g l = Gathers (FromOne IsFirst (take l.from-index l.states)) [] l.configs
