use Rattle.histories.proofs.Words.{◌∙◌}
use Rattle.histories.proofs.Gathering.{settles_pushed}
use Rattle.histories.proofs.Lists.{all_taken}
use Rattle.histories.proofs.close.make_states.Goals as goal

pub loop-state-preserved : goal.loop-state-preserved
loop-state-preserved g c =
    settles_pushed _ _ _ _ _ _ _ _ c.loop-state.invariant c.in_ok-make_state.ensures

pub returns : goal.returns
returns g c =
    let given = c.into_iter-state-iterator in
    let from = given.ensures.into_iter_gives in
    rw (all_taken given.result _ c.next.new.self _ _ _ from.0 (from.1 ∙ c.args.states.ok.0)
    c.loop-state.yielded_by c.in-None.is c.next.ensures.steps) at c.loop-state.invariant
