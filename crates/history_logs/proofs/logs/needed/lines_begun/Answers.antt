use Rattle.history_logs.proofs.Words.{Event, List, Some, ap, arith, eqb, events_of, flat_map, is_kept, line_begun, slice_get-get_or, take_all, ◌∙◌}
use Rattle.std.specs.List.{dedup}
use Rattle.std.proofs.lemmas.List.Filters.{dedup_is}
use Rattle.history_logs.proofs.Needing.{lines_more}
use Rattle.history_logs.proofs.logs.needed.lines_begun.Goals as goal

pub add_begun-requires : goal.add_begun-requires
add_begun-requires c call is =
    c.requires c.loop-event.event-index call
    (slice_get-get_or c.args.events.now c.loop-event.event-index _ c.loop-event-test.true
    ∙ ap Some is)

pub loop-event-preserved : goal.loop-event-preserved
loop-event-preserved c =
    lines_more _ (is_kept c.args.left_out.now) _ _ _ _ _ c.loop-event-test.true
    c.loop-event.invariant c.in_ok-add_begun.ensures

pub returns : goal.returns
returns c =
    dedup_is eqb _ _ c.dedup.ensures.filtered
    ∙ ap (dedup eqb) (c.loop-event.invariant
    ∙ ap (λ (l : List Event). flat_map (line_begun c.args.begins.now)
    (events_of (is_kept c.args.left_out.now) l))
    (take_all c.loop-event.event-index c.args.events.now (omega arith)))
