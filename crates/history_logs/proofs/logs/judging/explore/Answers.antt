use Rattle.history_logs.proofs.Words.{IfOk-weaker, ap, arith, length, ◌∙◌}
use Rattle.history_logs.proofs.Found.{explored}
use Rattle.history_logs.proofs.logs.judging.explore.Goals as goal

pub judge_windows-requires : goal.judge_windows-requires
judge_windows-requires c =
    let states = c.deref.ensures.value ∙ c.in_ok-states.ensures in
    record {
      some = omega (arith, ap length states);
      history = rw c.events.ensures c.requires.orderly.history;
    }

pub reported_of-requires-clause-found : goal.reported_of-requires-clause-found
reported_of-requires-clause-found c =
    rw (c.calls.ensures, c.deref.ensures.value, c.in_ok-states.ensures, c.events.ensures)
    at c.in_ok-found.ensures.verdict

pub returns : goal.returns
returns c =
    let verdict = rw (
      c.calls.ensures,
      c.deref.ensures.value,
      c.in_ok-states.ensures,
      c.events.ensures,
    ) at c.in_ok-found.ensures.verdict in
    let whole = rw (
      c.calls.ensures,
      c.deref.ensures.value,
      c.in_ok-states.ensures,
      c.events.ensures,
    ) at c.in_ok-found.ensures.whole in
    IfOk-weaker _ _ _ (λ reported is.
    explored c.args.log.now c.args.service.now _ c.in_ok-found.found reported verdict whole is)
    c.reported_of.ensures
