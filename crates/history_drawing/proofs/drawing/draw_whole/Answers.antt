use Rattle.std.proofs.Common.{◌≡◌, ℕ, ◌-◌, List, None, length, refl, rules}
use Rattle.std.specs.Borrow.{Bor}
use Rattle.std.proofs.lemmas.Result.{IfOk-weaker}
use Rattle.history_drawing.specs.Drawings.{AreLines, DrawsAll, IsWhole}
use Rattle.history_drawing.specs.declared.timeline.Window.{Window}
use Rattle.history_drawing.proofs.drawing.draw_whole.Goals as goal

-- all lines up to this one
abbrev all : ℕ → Window
all last = record { first = 0; last = last; wanted = None; service = None }

whole : (log : List ℕ) (lines : List (Bor (List ℕ))) (last : ℕ) → AreLines log lines
    → last ≡ length lines - 1 → IsWhole log lines (all last)
whole log lines last are is = record { are = are; first = refl; last = is; wanted = refl }

pub returns : goal.returns
returns c =
    let is = whole c.args.log.now c.as_slice-lines.result.now c.saturating_sub.result
    (rw c.as_slice-lines.ensures.value c.in_ok-lines.ensures) (search rules) in
    IfOk-weaker _ _ (DrawsAll c.args.log.now c.args.orders.now c.args.report.now)
    (λ d h. (_, _, is, h)) c.draw_lines.ensures
