use Rattle.iox2_container.proofs.Prelude.{arith, map, shown, ◌+◌, ◌≡◌}
use Rattle.iox2_container.proofs.CellEntries.{all_before}
use Rattle.iox2_container.proofs.Counting.{counted_more, one_if}
use Rattle.iox2_container.proofs.Passes.{few_more}
use Rattle.iox2_container.proofs.container.queries.count_of.Goals as goal
use Rattle.iox2_container.proofs.container.queries.count_of.Goals.{then-has_at, else-has_at}

pub returns-clause-count : goal.returns-clause-count
returns-clause-count g c =
    rw (all_before 0 c.loop-slot.slot (map shown c.args.slots.now.cells)
    (λ slot later. c.requires.free slot (omega arith))) at c.loop-slot.invariant.count

pub loop-slot-preserved : goal.loop-slot-preserved
loop-slot-preserved g c =
    let by_is : c.if-has_at.count ≡ c.loop-slot.count + one_if c.has_at.result =
    elim c.if-has_at.branch [
      | then-has_at w ↦ rw w.if-has_at.true w.count-is
      | else-has_at w ↦ rw w.if-has_at.false (omega arith)
    ] in
    let has = c.has_at.ensures.has in
    record {
      count = counted_more g.T.Attached.node c.args.node.now (map shown c.args.slots.now.cells)
          c.loop-slot.slot c.loop-slot.count c.if-has_at.count has.0 c.has_at.result has.1 has.2
          by_is c.loop-slot.invariant.count;
      few = few_more c.loop-slot.count c.if-has_at.count c.loop-slot.slot c.has_at.result
          by_is c.loop-slot.invariant.few;
      looks = omega (arith, c.has_at.ensures.looks, c.loop-slot.invariant.looks);
    }
