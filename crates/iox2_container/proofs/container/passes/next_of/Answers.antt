use Rattle.iox2_container.proofs.Prelude.{arith, inr, map, shown, ◌∙◌}
use Rattle.iox2_container.proofs.Counting.{found_after, others_join}
use Rattle.iox2_container.proofs.container.passes.next_of.Goals as goal

pub returns-then-has_next-clause-found : goal.returns-then-has_next-clause-found
returns-then-has_next-clause-found g c = grind (arith, found_after)

pub loop-slot-preserved : goal.loop-slot-preserved
loop-slot-preserved g c =
    let none = c.has_next.ensures.none c.if-has_next.false in
    record {
      order = omega (arith, c.loop-slot.invariant.order);
      within = omega (arith, c.loop-slot-test.true);
      nothing = none;
      cells = c.has_next.ensures.cells ∙ c.loop-slot.invariant.cells;
      touches =
          omega (arith, rw none at c.has_next.ensures.touches, c.loop-slot.invariant.touches);
      others = others_join g.T.Attached.node c.args.node.now (map shown c.args.slots.now.cells)
          c.args.start c.loop-slot.slot c.loop-slot.slot _ c.loop-slot.invariant.others
          (rw (none, c.loop-slot.invariant.cells) at c.has_next.ensures.found) (omega arith);
    }

pub returns-clause-found : goal.returns-clause-found
returns-clause-found g c =
    found_after g.T.Attached.node c.args.node.now (map shown c.args.slots.now.cells)
    c.args.start c.loop-slot.slot c.args.end c.args.end c.next_of_few.result
    c.loop-slot.invariant.order (omega (arith, c.loop-slot.invariant.within))
    (inr (omega arith)) c.loop-slot.invariant.others
    (rw c.loop-slot.invariant.cells at c.next_of_few.ensures.found)
