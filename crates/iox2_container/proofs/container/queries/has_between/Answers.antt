use Rattle.iox2_container.proofs.Prelude.{arith, map, shown}
use Rattle.iox2_container.proofs.Counting.{other_at, others_join}
use Rattle.iox2_container.proofs.container.queries.has_between.Goals as goal

pub returns-then-has_at-clause-has : goal.returns-then-has_at-clause-has
returns-then-has_at-clause-has g c = grind arith

pub loop-slot-preserved : goal.loop-slot-preserved
loop-slot-preserved g c = record {
  order = omega (arith, c.loop-slot-test.true);
  within = omega (arith, c.loop-slot.invariant.within);
  looks = omega arith;
  others = others_join g.T.Attached.node c.args.node.now (map shown c.args.slots.now.cells) _
      c.loop-slot.slot c.loop-slot.slot c.args.end
      (other_at g.T.Attached.node c.args.node.now (map shown c.args.slots.now.cells) _
      c.loop-slot.slot
      (rw c.if-has_at.false at c.has_at.ensures.has)
      (omega (arith, c.loop-slot-test.true)))
      c.loop-slot.invariant.others (omega arith);
}

pub returns-clause-has : goal.returns-clause-has
returns-clause-has g c = λ k l h. c.loop-slot.invariant.others k (omega arith) h
