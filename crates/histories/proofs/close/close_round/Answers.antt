use Rattle.histories.proofs.Words.{◌∙◌}
use Rattle.histories.proofs.Closing.{goes_pushed}
use Rattle.histories.proofs.Gathering.{gathers_pushed}
use Rattle.histories.proofs.Lists.{all_taken}
use Rattle.histories.proofs.close.close_round.Goals as goal

pub loop-config-preserved : goal.loop-config-preserved
loop-config-preserved g c = (
  gathers_pushed _ _ _ _ _ _ c.loop-config.invariant.0 c.in_ok-close_one.ensures.0,
  goes_pushed _ _ _ _ _ _ _ _ c.loop-config.invariant.1 c.in_ok-close_one.ensures.1,
)

pub returns : goal.returns
returns g c =
    let given = c.into_iter-config-iterator in
    let from = given.ensures.into_iter_gives in
    rw c.into_configs.ensures (rw (
    all_taken given.result _ c.next.new.self _ _ _ from.0 (from.1 ∙ c.args.layer.ok.0)
    c.loop-config.yielded_by c.in-None.is c.next.ensures.steps) at c.loop-config.invariant)
