use Rattle.histories.proofs.Words.{◌∙◌, is_kept, IfOk-weaker}
use Rattle.histories.proofs.Leaving.{rest_all, formed_rest}
use Rattle.histories.proofs.needed.shrink.Goals as goal

pub is_refused-requires : goal.is_refused-requires
is_refused-requires g c = record {
  formed = rw (c.deref.ensures.value ∙ c.in_ok-rest.ensures)
      (formed_rest (is_kept c.args.idle.now) _ c.requires.formed);
}

pub returns-then-branch : goal.returns-then-branch
returns-then-branch g c =
    IfOk-weaker c.from_slice.result _ _ (λ v same. rw same (rest_all _ _ _ _ c.requires.idle
    (rw (c.deref.ensures.value ∙ c.in_ok-rest.ensures) at
    (c.in_ok-is_refused.ensures c.if-branch.true)))) c.from_slice.ensures.items
