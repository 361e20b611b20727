use Rattle.histories.proofs.Words.{IsUnlinked}
use Rattle.histories.proofs.Lists.{AreDone}
use Rattle.histories.proofs.step.unlink.Given as goal

abbrev pub invariant-loop-config : goal.invariant-loop-config
invariant-loop-config g l = AreDone IsUnlinked l.fn.configs l.configs l.config-index
