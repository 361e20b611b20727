use Rattle.histories.proofs.Words.{◌≡◌, take, events_of, is_kept}
use Rattle.histories.proofs.needed.rest_of.Given as goal

abbrev pub invariant-loop-event : goal.invariant-loop-event
invariant-loop-event l = l.rest.items ≡ events_of (is_kept l.left_out) (take l.event-index l.events)
