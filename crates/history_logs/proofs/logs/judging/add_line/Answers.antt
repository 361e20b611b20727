use Rattle.history_logs.proofs.Words.{AreLinesTo, get_or, slice_get-get_or, subst, sym, ◌+◌}
use Rattle.history_logs.proofs.Refusing.{lines_more, not_waiting}
use Rattle.history_logs.proofs.logs.judging.add_line.Goals as goal

pub returns : goal.returns
returns c = λ l.
    let begins = c.args.begins.now in
    let slots = c.args.slots.now in
    let waiting = c.args.waiting in
    let slot = c.args.slot in
    let call = c.in-Some.call in
    let has = c.in-Some.is in
    let made =
    not_waiting waiting slot _ c.is_waiting.ensures.1 c.if-is_waiting.false in
    let at = slice_get-get_or begins call 0 (c.requires.below slot call has) in
    subst (AreLinesTo begins slots waiting (slot + 1)) (sym c.in_ok-push.ensures.items)
    (lines_more begins slots waiting slot call (get_or begins call 0) _ l has made at)
