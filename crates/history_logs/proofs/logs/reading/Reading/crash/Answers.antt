use Rattle.history_logs.proofs.Words.{Some, ap, log_of, slice_set, ◌∙◌}
use Rattle.history_logs.proofs.Kept.{opened_at}
use Rattle.history_logs.proofs.logs.reading.Reading.crash.Goals as goal

pub returns-in_ok-set-in-Some-Calls-clause-does : goal.returns-in_ok-set-in-Some-Calls-clause-does
returns-in_ok-set-in-Some-Calls-clause-does c =
    let arm = c.in-Some-Calls in
    let old = c.args.self.now in
    let d = c.index_mut.result.now in
    let found = opened_at (log_of old) c.args.caller.now _ arm.at arm.number d
    c.requires.ready.sane c.state_of.ensures (arm.is ∙ ap Some arm.field-0-is)
    c.index_mut.ensures.value in (
      c.requires.waits,
      rw found.0 (
        d,
        found.1,
        ap (slice_set old.services.items arm.at) c.in_ok-crash-in-Some-Calls.ensures,
      ),
      c.in_ok-set-in-Some-Calls.ensures,
      c.requires.waits,
    )
