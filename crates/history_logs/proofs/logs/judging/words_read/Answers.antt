use Rattle.history_logs.proofs.Words.{IfOk-weaker, line_seen, sym}
use Rattle.history_logs.proofs.FirstLines.{words_said}
use Rattle.history_logs.proofs.logs.judging.words_read.Goals as goal

pub returns-in-Some : goal.returns-in-Some
returns-in-Some c =
    let read = rw c.in-Some.is at c.in_ok-line.ensures in
    IfOk-weaker c.from_slice.result _ _ (λ v is.
    words_said _ (line_seen c.in-Some.line) _ v.items read c.words_of.ensures is)
    c.from_slice.ensures.items

pub returns-in-None : goal.returns-in-None
returns-in-None c = λ seen words is a same.
    let read = rw c.in-None.is at c.in_ok-line.ensures in
    absurd (read seen is (sym same))
