use Rattle.histories.proofs.Leaving.{cut_states}
use Rattle.histories.proofs.needed.states_left.Goals as goal

pub returns : goal.returns
returns g c =
    cut_states _ _ _ _ c.requires.history (rw c.in-Ok.is at c.in_ok-window.ensures.all)
    c.if-begin-past.false _ c.in_ok-states_of.ensures
