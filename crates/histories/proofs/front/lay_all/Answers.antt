use Rattle.histories.proofs.Words.{◌<◌, arith, get_or, length, get_or_default}
use Rattle.histories.proofs.Lists.{done_as, done_more, grows_none, grows_then, laid_within}
use Rattle.histories.proofs.front.lay_all.Goals as goal

pub loop-config-preserved : goal.loop-config-preserved
loop-config-preserved g c =
    let now = c.loop-config.configs in
    let at = c.loop-config.config-index in
    let one = c.lay_one.new.config in
    let before = c.loop-config.invariant in
    let laid = c.in_ok-lay_one.ensures in
    let h : at < length now = omega (arith, c.loop-config-test.true, before.0.many) in
    let config = get_or now at c.config-item.result in (
      done_more _ _ _ at config one h (get_or_default now at c.config-item.result config h)
          (laid_within _ _ _ _ config one before.1 (grows_none _) laid) (done_as _ _ _ _ at
          (λ x y l. laid_within _ _ _ _ x y (grows_none _) laid.2 l) before.0),
      grows_then _ _ _ before.1 laid.2,
    )
