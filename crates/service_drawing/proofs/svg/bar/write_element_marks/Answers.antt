use Rattle.std.proofs.Common.{ℕ, ◌+◌, ◌*◌}
use Rattle.service_drawing.proofs.Pictures.{next_free, next_mark}
use Rattle.service_drawing.proofs.svg.bar.write_element_marks.Goals as goal

pub loop-i-preserved : goal.loop-i-preserved
loop-i-preserved c =
    let l = c.args.layout.now in
    let start = λ (i : ℕ). l.payload.start + i * l.element in
    record {
      drawn = next_mark l.size c.args.free c.loop-i.i c.loop-i.free start _ _ _
          c.loop-i.invariant.drawn c.loop-i.invariant.free
          (rw c.elements_from.ensures at c.in_ok-free.ensures.drawn);
      free = next_free l.size c.args.free c.loop-i.i c.loop-i.free c.in_ok-free.free start
          c.loop-i.invariant.free (rw c.elements_from.ensures at c.in_ok-free.ensures.free);
      room = c.in_ok-free.ensures.room;
    }
