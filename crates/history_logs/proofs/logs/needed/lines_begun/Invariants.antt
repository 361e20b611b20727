use Rattle.history_logs.proofs.Words.{events_of, flat_map, is_kept, line_begun, take, ◌≡◌}
use Rattle.history_logs.proofs.logs.needed.lines_begun.Given as goal

abbrev pub invariant-loop-event : goal.invariant-loop-event
invariant-loop-event l =
    l.lines.items
    ≡ flat_map (line_begun l.begins) (events_of (is_kept l.left_out) (take l.event-index l.events))
