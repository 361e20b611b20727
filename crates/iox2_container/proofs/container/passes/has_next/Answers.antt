use Rattle.iox2_container.proofs.Prelude.{arith, map, shown, ◌+◌, ◌∙◌}
use Rattle.iox2_container.proofs.Counting.{others_more}
use Rattle.iox2_container.proofs.container.passes.has_next.Goals as goal

pub loop-i-preserved : goal.loop-i-preserved
loop-i-preserved g c = record {
  nothing = c.loop-i.invariant.nothing;
  cells = c.look_for.ensures.cells ∙ c.loop-i.invariant.cells;
  touches = omega (arith, c.look_for.ensures.touches, c.loop-i.invariant.touches);
  others = others_more g.T.Attached.node c.args.node.now (map shown c.args.slots.now.cells)
      c.args.start (c.args.start + c.loop-i.i) _ c.loop-i.invariant.others
      (rw c.loop-i.invariant.cells at c.in_default.ensures.found) (omega arith);
}
