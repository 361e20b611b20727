use Rattle.history_logs.proofs.Words.{given, service, state_seen}
use Rattle.history_logs.proofs.Refused.{ok_at}
use Rattle.history_logs.proofs.logs.reading.Reading.take.Goals as goal

pub returns-in-Service-clause-does : goal.returns-in-Service-clause-does
returns-in-Service-clause-does c =
    rw c.in-Service.is
    (ok_at _ _ _ (service c.in-Service.service) c.args.line c.service.ensures.does)

pub returns-in-Begin-clause-does : goal.returns-in-Begin-clause-does
returns-in-Begin-clause-does c = rw c.in-Begin.is c.begin.ensures.does

pub returns-in-End-clause-does : goal.returns-in-End-clause-does
returns-in-End-clause-does c = rw c.in-End.is c.end.ensures.does

pub returns-in-Crash-clause-does : goal.returns-in-Crash-clause-does
returns-in-Crash-clause-does c = rw c.in-Crash.is c.crash.ensures.does

pub returns-in-State-clause-does : goal.returns-in-State-clause-does
returns-in-State-clause-does c =
    rw c.in-State.is
    (ok_at _ _ _ (given c.in-State.number (state_seen c.in-State.given)) c.args.line
    c.given.ensures.does)
