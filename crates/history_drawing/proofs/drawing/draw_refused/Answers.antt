use Rattle.std.proofs.lemmas.Result.{IfOk-weaker}
use Rattle.history_drawing.specs.Drawings.{DrawsWindow}
use Rattle.history_drawing.proofs.drawing.draw_refused.Goals as goal

pub returns : goal.returns
returns c =
    let w = c.in_ok-window.ensures c.args.log.now
    (rw c.as_slice-lines.ensures.value c.in_ok-lines.ensures) in
    IfOk-weaker _ _
    (DrawsWindow c.args.log.now c.args.reported.now c.args.orders.now c.args.report.now)
    (λ d h. (_, _, w, h)) c.draw_lines.ensures
