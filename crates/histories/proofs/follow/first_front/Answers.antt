use Rattle.histories.proofs.Words.{IfOk-weaker}
use Rattle.histories.proofs.Following.{goes_begin}
use Rattle.histories.proofs.follow.first_front.Goals as goal

pub returns : goal.returns
returns g c =
    IfOk-weaker c.start.result _ _ (λ front f whole. (
      0,
      goes_begin (g.M.Machine.Step whole) c.args.states.now front c.requires (f whole),
    )) c.start.ensures
