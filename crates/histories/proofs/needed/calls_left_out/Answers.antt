use Rattle.histories.proofs.Words.{IfOk-weaker, refl}
use Rattle.histories.proofs.Verdicts.{history_past}
use Rattle.histories.proofs.Leaving.{refused_window, rest_none}
use Rattle.histories.proofs.Verdicts.{formed_inside}
use Rattle.histories.proofs.needed.calls_left_out.Goals as goal

pub states_left-requires-clause-history : goal.states_left-requires-clause-history
states_left-requires-clause-history g c = history_past _ _ c.requires.history

pub shrink-requires : goal.shrink-requires
shrink-requires g c = record {
  formed = formed_inside _ _ c.requires.history c.requires.cut.1.quiet;
  idle = c.requires.idle;
  refused = refused_window _ _ _ _ c.requires.history _
      _ c.deref.ensures.value (rw c.in-Some.is at c.in_ok-left.ensures) c.requires.refused;
}

pub returns-in-Some : goal.returns-in-Some
returns-in-Some g c =
    IfOk-weaker c.shrink.result _ _ (λ left_out rest. record {
      states = c.deref.result.now;
      cut = rw c.deref.ensures.value (rw c.in-Some.is at c.in_ok-left.ensures);
      rest = rest;
    }) c.shrink.ensures

pub returns-in-None : goal.returns-in-None
returns-in-None g c =
    let cut = c.requires.cut in
    IfOk-weaker c.vec.result _ _ (λ left_out all. record {
      states = cut.0;
      cut = cut.1;
      rest = rw (all (λ y same. same)) (rest_none _ _ _ _
          (refused_window _ _ _ _ c.requires.history _ _ refl cut.1 c.requires.refused));
    }) c.vec.ensures.items_if_clones_equal
