use Rattle.histories.proofs.Words.{Bool, List, ◌∙◌, ap, events_of, is_kept}
use Rattle.histories.proofs.Leaving.{rest_back, rest_more, formed_rest}
use Rattle.histories.proofs.needed.leave_out.Goals as goal

pub is_refused-requires : goal.is_refused-requires
is_refused-requires g c = record {
  formed = rw (c.deref-2.ensures.value ∙ c.in_ok-rest.ensures)
      (formed_rest (is_kept c.deref.result.now) _ c.requires.formed);
}

pub returns-then-branch : goal.returns-then-branch
returns-then-branch g c =
    let events = c.args.events.now in
    rest_more _ _ _ _ _ c.requires.idle (rw (← c.deref-2.ensures.value ∙ (c.in_ok-rest.ensures ∙ ap
    (λ (l : List Bool). events_of (is_kept l) events) c.deref.ensures.value))
    (c.in_ok-is_refused.ensures c.if-branch.true))

pub returns : goal.returns
returns g c = rest_back _ _ _ _ _ _ c.index-was.ensures
