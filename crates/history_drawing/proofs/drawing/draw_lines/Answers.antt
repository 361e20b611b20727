use Rattle.std.proofs.Common.{List, inl, inr, subst, sym}
use Rattle.std.specs.Prelude.{◌<◌, AllPairs}
use Rattle.std.proofs.lemmas.Result.{IfOk-weaker}
use Rattle.history_drawing.proofs.Shown.{drawable}
use Rattle.history_drawing.proofs.Rising.{in_bars}
use Rattle.history_drawing.specs.declared.timeline.Bar.{Bar}
use Rattle.history_drawing.specs.declared.timeline.Timeline.{Timeline}
use Rattle.history_drawing.proofs.drawing.draw_lines.Goals as goal

pub points_of-requires : goal.points_of-requires
points_of-requires c =
    let shown = rw c.in-Some.is at c.in_ok-timeline.ensures.some in
    subst (λ (l : List Bar). AllPairs (λ (one other : Bar). one.begin < other.begin) l)
    (sym c.deref.ensures.value) shown.bars.rising

pub drawn-requires : goal.drawn-requires
drawn-requires c =
    let shown = rw c.in-Some.is at c.in_ok-timeline.ensures.some in
    let points = c.in_ok-timeline-2.field-0 in
    let t : Timeline = record c.in-Some.timeline { points = points } in
    drawable c.args.lines.now c.args.window.now _ t shown.bars
    (in_bars t.bars.items c.args.orders.now points.items
    (rw c.deref.ensures.value at c.in_ok-timeline-2.ensures))

pub returns-in_default : goal.returns-in_default
returns-in_default c =
    let many = rw c.in_default.is at c.in_ok-timeline.ensures.none in
    IfOk-weaker _ _ _ (λ d h. inl (h, many)) c.without_room.ensures

pub returns : goal.returns
returns c =
    let shown = rw c.in-Some.is at c.in_ok-timeline.ensures.some in
    IfOk-weaker _ _ _ (λ d h. inr (
      rw shown.refused at h.0,
      record {
        t = record c.in-Some.timeline { points = c.in_ok-timeline-2.field-0 };
        bars = shown.bars;
        points = rw c.deref.ensures.value at c.in_ok-timeline-2.ensures;
        refused = shown.refused;
        is = h.1;
      },
    )) c.drawn.ensures
