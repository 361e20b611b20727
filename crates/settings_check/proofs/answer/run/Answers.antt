use Rattle.std.proofs.Common.{inr}
use Rattle.std.proofs.lemmas.Result.{IfErr-weaker}
use Rattle.line_streams.proofs.Written.{ends_where_written, status_small}
use Rattle.settings_check.proofs.Comparing.{answer_reported}
use Rattle.settings_check.proofs.answer.run.Goals as goal

pub returns-clause-ends : goal.returns-clause-ends
returns-clause-ends g c =
    ends_where_written _ _ _ _ _ _ _ _ _ c.in_ok-end.end c.write_outcome.result
    (λ answer. status_small answer.status)
    (answer_reported _ _ _ c.request_of-parsed.result _ _ _ _ _ _ c.request_of-parsed.ensures)
    c.in_ok-end.ensures.answered c.write_outcome.ensures.status c.write_outcome.ensures.output
    c.write_outcome.ensures.errors

pub returns-clause-failed : goal.returns-clause-failed
returns-clause-failed g c =
    IfErr-weaker c.write_outcome.result _ _ (λ e h. inr h) c.write_outcome.ensures.failed
