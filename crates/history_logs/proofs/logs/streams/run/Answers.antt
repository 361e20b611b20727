use Rattle.std.proofs.Common.{inr}
use Rattle.std.proofs.lemmas.Result.{IfErr-weaker}
use Rattle.history_logs.proofs.logs.streams.run.Goals as goal

pub returns-clause-failed : goal.returns-clause-failed
returns-clause-failed g c =
    IfErr-weaker c.write_outcome.result _ _ (λ e h. inr h) c.write_outcome.ensures.failed
