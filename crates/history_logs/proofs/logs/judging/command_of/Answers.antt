use Rattle.history_logs.proofs.Words.{ap, arith, subst, sym, ◌+◌, ◌≡◌}
use Rattle.history_logs.proofs.FirstLines.{before_more, before_none, IsFoundIn, note_or_reply_next, command_next, found_end, found_last, is_command}
use Rattle.history_logs.proofs.logs.judging.command_of.Goals.{else-not-is_note_or_reply, then-not-is_note_or_reply}
use Rattle.history_logs.proofs.logs.judging.command_of.Goals as goal

pub loop-above-init : goal.loop-above-init
loop-above-init c = (
  before_none c.args.log.now,
  λ at text is. let none : at ≡ 0 = omega (arith, is.upto) in absurd (rw none at is.there),
)

pub returns-in_default : goal.returns-in_default
returns-in_default c =
    found_last _ _ _ _ c.loop-above.command c.in_default.ensures.none c.loop-above-test.true
    c.loop-above.invariant.0 c.loop-above.invariant.1

pub loop-above-preserved : goal.loop-above-preserved
loop-above-preserved c =
    let log = c.args.log.now in
    let i = c.loop-above.above in
    let rest = c.loop-above.rest.now in
    let text = c.in-Some.text.now in
    let after = c.in-Some.after.now in
    let read = c.in-Some.ensures.read in
    let left = c.loop-above.invariant.0 in (
      before_more log i rest text after read.0 read.1 left,
      elim c.if-not-is_note_or_reply.branch [
        | then-not-is_note_or_reply w ↦
            command_next log i rest text after read.0 read.1 left c.if-not-is_note_or_reply.command
            (is_command _ _ c.is_note_or_reply.ensures w.if-not-is_note_or_reply.true)
            (ap (λ p. p.0) w.command-is)
            (ap (λ p. p.1.now) w.command-is)
        | else-not-is_note_or_reply w ↦
            subst (IsFoundIn log (i + 1)) (sym w.command-is)
            (note_or_reply_next log i rest text after read.0 read.1 left c.loop-above.command
            (c.is_note_or_reply.ensures.0 w.if-not-is_note_or_reply.false) c.loop-above.invariant.1)
      ],
    )

pub returns : goal.returns
returns c =
    found_end _ _ _ c.loop-above.command c.loop-above.auto.above-end
    c.loop-above-test.false c.loop-above.invariant.1
