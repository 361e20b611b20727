use Rattle.histories.proofs.Words.{on_ok_weaker}
use Rattle.histories.proofs.Gathering.{settles_one}
use Rattle.histories.proofs.close.add_settled.Goals as goal

pub returns : goal.returns
returns g c =
    on_ok_weaker c.add.result (settles_one (g.M.Machine.Step c.args.machine.now) _ _
    c.settle.new.config _ _ c.in_ok-settle.ensures) c.add.ensures.gathers
