use Rattle.histories.proofs.Words.{◌≡◌, states_of}
use Rattle.histories.proofs.needed.states_of.Given as goal

abbrev pub invariant-loop-config : goal.invariant-loop-config
invariant-loop-config g l = l.states.items ≡ states_of l.yielded
