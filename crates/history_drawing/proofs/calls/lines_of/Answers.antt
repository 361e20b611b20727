use Rattle.std.proofs.Common.{ℕ, List, subst, sym}
use Rattle.std.specs.Borrow.{Bor}
use Rattle.history_drawing.proofs.Begins.{AreRead, read_more}
use Rattle.history_drawing.proofs.calls.lines_of.Goals as goal

pub loop-line-preserved : goal.loop-line-preserved
loop-line-preserved c =
    let read = c.in-Some.ensures.read in
    subst (λ (l : List (Bor (List ℕ))). AreRead c.args.text.now l c.in-Some.after.now)
    (sym c.in_ok-push-2.ensures.items)
    (read_more c.args.text.now c.loop-line.lines.items c.loop-line.rest.now c.in-Some.line
    c.in-Some.after.now c.loop-line.invariant read.0 read.1)
