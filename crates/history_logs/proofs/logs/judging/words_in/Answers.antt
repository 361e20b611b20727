use Rattle.history_logs.proofs.Words.{IfOk-weaker, IsLineAt, arith, line_text, subst, ◌-◌}
use Rattle.history_logs.proofs.FirstLines.{line_at_rest, line_first, no_line}
use Rattle.history_logs.proofs.logs.judging.words_in.Goals as goal

pub returns-then-line-eq0 : goal.returns-then-line-eq0
returns-then-line-eq0 c = λ seen words is a at.
    absurd (subst (λ k. IsLineAt c.args.log.now k (line_text seen)) c.if-line-eq0.true at)

pub returns-in-Some : goal.returns-in-Some
returns-in-Some c =
    let read = c.in-Some.ensures.read in
    IfOk-weaker c.words_read.result _ _ (λ v says seen words is a at.
    says seen words is a
    (line_first _ _ _ (line_text seen) read.0 read.1
    (line_at_rest c.args.log.now (c.args.line - 1) 0 _ _ (line_text seen)
    c.after_lines-rest.ensures (omega arith) at))) c.words_read.ensures

pub returns-in-None : goal.returns-in-None
returns-in-None c = λ seen words is a at.
    absurd (no_line _ 1 (line_text seen) c.in-None.ensures.none
    (line_at_rest c.args.log.now (c.args.line - 1) 0 _ _ (line_text seen)
    c.after_lines-rest.ensures (omega arith) at))
