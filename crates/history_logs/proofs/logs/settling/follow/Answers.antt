use Rattle.history_logs.proofs.Words.{rules}
use Rattle.history_logs.proofs.Settled.{forgets, may_forget}
use Rattle.history_logs.proofs.logs.settling.follow.Goals as goal

pub forget-requires : goal.forget-requires
forget-requires c =
    let found = c.first_open-first.ensures in
    let may = may_forget c.args.service.now c.args.front.now c.go_short.new.front _ _ _
    (c.in_ok-go_short.ensures (search rules))
    c.count_settled-count.ensures.over
    (rw (c.first.ensures, c.events.ensures) at c.behind_last-most.ensures) found.most
    (rw c.deref.ensures.value at found.each) (rw c.deref.ensures.value at found.is) c.requires in
    record { first = may.0; within = may.1; followed = search rules }

pub returns : goal.returns
returns c = λ yes.
    let found = c.first_open-first.ensures in
    rw c.forget.ensures
    (forgets c.args.service.now c.args.front.now c.go_short.new.front _ _ _
    (c.in_ok-go_short.ensures (search rules)) c.count_settled-count.ensures.over
    (rw (c.first.ensures, c.events.ensures) at c.behind_last-most.ensures) found.most
    (rw c.deref.ensures.value at found.each) (rw c.deref.ensures.value at found.is))
