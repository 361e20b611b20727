use Rattle.history_logs.proofs.Words.{codes, decimal, flat_map, number_word, ◌++◌, ◌∷◌}
use Rattle.history_logs.specs.Reports.{window_text}
use Rattle.history_logs.proofs.Reports.{two_parts}
use Rattle.history_logs.proofs.logs.report.append_window.Goals as goal

pub returns : goal.returns
unfolding window_text
returns c =
    let one = c.append_number.new.out.items in
    let two = c.extend_from_slice.new.self.items in
    let three = c.append_each.new.out.items in
    let front = 10 ∷ codes "needed: lines" in
    let lines = flat_map number_word c.args.needed.now in
    two_parts _ one three
    ((10 ∷ codes "window: from line ") ++ decimal c.args.window) (front ++ lines)
    c.in_ok-append_number.ensures
    (two_parts one two three front lines c.in_ok-extend_from_slice.ensures.items
    c.in_ok-append_each.ensures)
