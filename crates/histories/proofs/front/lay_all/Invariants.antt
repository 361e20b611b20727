use Rattle.histories.proofs.Words.{Grows, IsLaid}
use Rattle.histories.proofs.Lists.{AreDone}
use Rattle.histories.proofs.front.lay_all.Given as goal

abbrev pub invariant-loop-config : goal.invariant-loop-config
invariant-loop-config g l =
    AreDone (IsLaid l.fn.links.items l.links.items) l.fn.configs l.configs l.config-index
    × Grows l.fn.links.items l.links.items
