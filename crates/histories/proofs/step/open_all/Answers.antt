use Rattle.histories.proofs.Words.{◌∙◌, arith, length_push, rules}
use Rattle.histories.proofs.Gathering.{settles_alone, settles_one, settles_no_one, settles_pushed}
use Rattle.histories.proofs.Lists.{all_taken}
use Rattle.histories.proofs.step.open_all.Goals as goal

pub loop-config-init : goal.loop-config-init
loop-config-init g c =
    rw c.in_ok-opened.ensures (settles_no_one _ _ _ _, omega arith)

pub loop-config-preserved : goal.loop-config-preserved
loop-config-preserved g c = (
  settles_pushed _ _ _ _ _ _ _ _ c.loop-config.invariant.0
      (settles_one _ _ _ c.open-in-loop-config.new.config _ _ c.in_ok-open-2.ensures
      c.in_ok-add.ensures.gathers),
  omega (arith, length_push, c.loop-config.invariant.1, c.in_ok-add.ensures.most),
)

pub returns-clause-settles : goal.returns-clause-settles
returns-clause-settles g c =
    let given = c.into_iter-config-iterator in
    let from = given.ensures.into_iter_gives in
    rw c.into_configs.ensures (rw (
    all_taken given.result _ c.next.new.self _ _ _ from.0 (from.1 ∙ c.args.configs.ok.0)
    c.loop-config.yielded_by c.in-None.is c.next.ensures.steps) at c.loop-config.invariant.0)

pub returns-then-len-eq1-clause-settles : goal.returns-then-len-eq1-clause-settles
returns-then-len-eq1-clause-settles g c =
    settles_alone _ _ _ _ _ _ (search rules) c.index_mut.ensures.value c.in_ok-open.ensures
