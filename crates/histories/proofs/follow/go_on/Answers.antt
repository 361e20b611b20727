use Rattle.histories.proofs.Words.{ap, append-nil, arith, length}
use Rattle.histories.proofs.Following.{end_upto, one_done, two_done}
use Rattle.histories.proofs.follow.go_on.Goals as goal

pub loop-at-init : goal.loop-at-init
loop-at-init g c whole past olds p = rw (append-nil past) p.front_of

pub loop-at-preserved-then-branch : goal.loop-at-preserved-then-branch
loop-at-preserved-then-branch g c =
    two_done _ _ _ _ _ _ c.loop-at.invariant _ _
    _ (rw c.if-branch.true at c.in_ok-make_next.ensures) c.begin_anew.ensures

pub advance-requires : goal.advance-requires
advance-requires g c = record {
  few =
      let r = c.requires in
      let f = c.loop-at.invariant r.0 r.1 r.2 r.3 in
      let same = rw c.if-branch.false at c.in_ok-make_next.ensures in
      omega (arith, ap length same.0, f.1.is.front.table.few);
}

pub loop-at-preserved : goal.loop-at-preserved
loop-at-preserved g c =
    one_done _ _ _ _ _ _ c.loop-at.invariant _ c.loop-at-test.true c.make_next.new.front _ _ _
    (rw c.if-branch.false at c.in_ok-make_next.ensures) (rw c.in-Done.is at c.in_ok-advance.ensures)
    c.begin_anew-in-loop-at.ensures

pub returns : goal.returns
returns g c = end_upto _ _ _ _ _ _ c.loop-at.invariant c.loop-at-test.false
