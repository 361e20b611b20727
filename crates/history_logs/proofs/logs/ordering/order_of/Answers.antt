use Rattle.history_logs.proofs.Words.{ap, refl}
use Rattle.history_logs.proofs.Judgements.{calls_within, order_reported}
use Rattle.history_logs.proofs.logs.ordering.order_of.Goals as goal

pub lines_of-requires : goal.lines_of-requires
lines_of-requires c =
    rw (c.begins.ensures, c.deref.ensures.value)
    (calls_within c.args.service.now c.requires.orderly c.args.window.now
    c.in_ok-calls.calls.items c.requires.front c.requires.some c.in_ok-calls.ensures)

pub returns : goal.returns
returns c =
    order_reported c.args.service.now c.requires.orderly c.args.window.now
    c.in_ok-calls.calls.items c.requires.front c.requires.some c.in_ok-calls.ensures
    c.line.result.now.number c.in_ok-lines.lines.items _ (ap (λ l. l.number) c.line.ensures)
    (rw (c.begins.ensures, c.deref.ensures.value) at c.in_ok-lines.ensures) refl refl
