use Rattle.histories.proofs.Words.{[], ◌∷◌, on_ok_weaker}
use Rattle.histories.proofs.Gathering.{settles_call, settles_only}
use Rattle.histories.proofs.close.make_call.Goals as goal

pub returns-in-One : goal.returns-in-One
returns-in-One g c =
    on_ok_weaker c.make_state.result (λ one. settles_call (g.M.Machine.Step c.args.machine.now) _
    c.args.config.now _ _ (c.in-One.state ∷ []) _ _ c.requires.waits
    (rw c.in-One.is at c.in_ok-follow.ensures) (settles_only _ _ _ _ _ _ one))
    c.make_state.ensures

pub returns-in-All : goal.returns-in-All
returns-in-All g c =
    on_ok_weaker c.make_states.result
    (settles_call (g.M.Machine.Step c.args.machine.now) _ c.args.config.now
    _ _ _ _ _ c.requires.waits (rw c.in-All.is at c.in_ok-follow.ensures)) c.make_states.ensures
