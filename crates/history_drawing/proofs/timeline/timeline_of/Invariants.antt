use Rattle.std.proofs.Common.{◌<◌, ◌≤◌}
use Rattle.history_drawing.specs.Timelines.{AreBars}
use Rattle.history_drawing.proofs.timeline.timeline_of.Given as goal

abbrev pub invariant-loop-line : goal.invariant-loop-line
invariant-loop-line l =
    AreBars l.lines l.window l.line l.rows.items l.bars.items
    × (l.window.first < l.line → l.line ≤ l.window.last)
