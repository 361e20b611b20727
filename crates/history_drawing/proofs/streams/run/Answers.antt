use Rattle.std.proofs.Common.{inr}
use Rattle.std.proofs.lemmas.Result.{IfErr-weaker, IfOk-weaker}
use Rattle.line_streams.proofs.Written.{ends_where_written, status_small}
use Rattle.history_drawing.proofs.Shown.{Drew, drawn_with}
use Rattle.history_drawing.proofs.streams.run.Goals.{in-Err, in-Ok}
use Rattle.history_drawing.proofs.streams.run.Goals as goal

pub returns-clause-ends : goal.returns-clause-ends
returns-clause-ends g c =
    let given = g.R.Source.remaining c.args.input.now in
    ends_where_written _ _ _ (Drew given) _ _ _ _ _ c.match-branch-2.end c.write_outcome.result
    (λ d. status_small d.status) (λ d. drawn_with given _ _ _ _ d)
    (elim c.match-branch-2.branch [
      | in-Ok w ↦
          let all = rw w.in-Ok.is at c.in_ok-log.ensures.bytes in
          rw w.end-is (IfOk-weaker _ _ (Drew given)
          (λ d is. (_, all, rw w.deref.ensures.value at is)) w.draw_log-end.ensures)
      | in-Err w ↦ rw w.end-is tt
    ])
    c.write_outcome.ensures.status c.write_outcome.ensures.output c.write_outcome.ensures.errors

pub returns-clause-failed : goal.returns-clause-failed
returns-clause-failed g c =
    IfErr-weaker c.write_outcome.result _ _ (λ e h. inr h) c.write_outcome.ensures.failed
