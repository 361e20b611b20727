use Rattle.histories.proofs.Words.{FromOne, Gathers, IsCopy}
use Rattle.histories.proofs.gather.joined.Given as goal

abbrev pub invariant-loop-config : goal.invariant-loop-config
invariant-loop-config g l = Gathers (FromOne IsCopy l.yielded) l.fn.configs.items l.all
