use Rattle.history_logs.proofs.Words.{All, AreJudged, HasEventLines, IsSeenRightly, List, Service, Some, subst, sym}
use Rattle.history_logs.proofs.Answered.{located_of}
use Rattle.history_logs.proofs.Judgements.{found_refused, none_right, refuses_none}
use Rattle.history_logs.proofs.logs.deciding.refused_in.Goals as goal

pub judge_services-requires-clause-located : goal.judge_services-requires-clause-located
judge_services-requires-clause-located c =
    subst (All (HasEventLines c.args.text.now)) (sym c.deref.ensures.value)
    (located_of _ _ _ c.in_ok-reading.ensures.read)

pub returns-in-Ok : goal.returns-in-Ok
returns-in-Ok c =
    refuses_none _ _ _ c.in_ok-reading.ensures.read
    (none_right _ (subst (All IsSeenRightly) c.deref.ensures.value
    (rw c.in-Ok.is at c.in_ok-judged.ensures.right)))

pub returns : goal.returns
returns c =
    found_refused _ _ _ c.in-Err.found _ c.in_ok-reading.ensures.read
    (subst (λ (ss : List Service). AreJudged c.args.text.now ss (Some c.in-Err.found))
    c.deref.ensures.value (rw c.in-Err.is at c.in_ok-judged.ensures.found)) c.refusal_of.ensures
