use Rattle.history_logs.proofs.Words.{IfOk-weaker, arith, is_kept}
use Rattle.history_logs.proofs.Needing.{window_begins, window_cut, window_history, window_lines, window_refused}
use Rattle.history_logs.proofs.logs.needed.lines_needed.Goals as goal

pub calls_left_out-requires : goal.calls_left_out-requires
calls_left_out-requires c =
    let s = c.args.service.now in
    let r = c.requires in
    rw (c.events.ensures, c.calls.ensures, c.deref.ensures.value, c.in_ok-states.ensures) (record {
      some = omega arith;
      history = window_history s r.orderly _ _ r.within;
      cut = window_cut s r.orderly _ _ r.within r.cut;
      refused = window_refused s r.orderly _ _ r.within r.stops _ r.ended;
      idle = rw (c.deref-2.ensures.value, ← c.calls-2.ensures) c.in_ok-idle.ensures;
    })

pub lines_begun-requires : goal.lines_begun-requires
lines_begun-requires c =
    rw (c.events.ensures, c.begins.ensures)
    (window_begins c.args.service.now c.requires.orderly _ _ c.requires.within)

pub returns : goal.returns
returns c =
    let r = c.requires in
    let needed = rw (
      c.events.ensures,
      c.calls.ensures,
      c.deref.ensures.value,
      c.in_ok-states.ensures,
    ) at c.in_ok-left_out.ensures in
    IfOk-weaker c.lines_begun.result _ _
    (λ lines is. window_lines c.args.service.now r.orderly _ _ r.within r.stops _ r.ended
    (is_kept c.in_ok-left_out.left_out.items) lines.items needed
    (rw (c.events.ensures, c.begins.ensures, c.deref-3.ensures.value) at is)) c.lines_begun.ensures
