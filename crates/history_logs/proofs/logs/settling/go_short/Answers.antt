use Rattle.history_logs.proofs.Words.{Calls, IfOk-weaker}
use Rattle.history_logs.proofs.Settled.{goes_short, has_past}
use Rattle.history_logs.proofs.logs.settling.go_short.Goals as goal

pub go_on-requires : goal.go_on-requires
go_on-requires c =
    let m : Calls =
    record { alloc = c.args.alloc; first = c.first.result; calls = c.kept.result } in
    rw c.events.ensures
    (has_past c.args.service.now c.args.front.now c.args.count m c.first.ensures c.kept.ensures
    c.requires.short)

pub returns : goal.returns
returns c =
    let m : Calls =
    record { alloc = c.args.alloc; first = c.first.result; calls = c.kept.result } in
    IfOk-weaker c.go_on.result _ _ (λ yes goes t.
    goes_short c.args.service.now c.args.front.now c.go_on.new.front c.args.count m c.first.ensures
    c.kept.ensures (rw (t, c.events.ensures) at goes)) c.go_on.ensures
