use Rattle.histories.specs.declared.front.Advance.TheVariants as advance
use Rattle.histories.proofs.Following.{follows_alone, follows_begin, follows_done, follows_end, goes_explained, stopped}
use Rattle.histories.proofs.follow.follow.Goals as goal

pub loop-at-init : goal.loop-at-init
loop-at-init g c = follows_begin _ _ _ _ c.requires.some (c.in_ok-front.ensures c.args.machine.now)

pub loop-at-preserved-then-branch : goal.loop-at-preserved-then-branch
loop-at-preserved-then-branch g c =
    follows_alone _ _ _ _ _ c.requires.history _ _ c.loop-at.invariant
    _ _ (rw c.if-branch.true at c.in_ok-make_next.ensures) c.cut_at.ensures

pub loop-at-preserved : goal.loop-at-preserved
loop-at-preserved g c =
    follows_done _ _ _ _ _ c.requires.history _ _ c.loop-at.invariant _
    c.loop-at-test.true c.make_next.new.front (rw c.if-branch.false at c.in_ok-make_next.ensures)
    _ _ (rw c.in-Done.is at c.in_ok-advance.ensures) c.cut_at-in-loop-at.ensures

pub returns-in-Refused-clause-stop : goal.returns-in-Refused-clause-stop
returns-in-Refused-clause-stop g c =
    stopped _ _ _ _ _ c.requires.history _ _ c.loop-at.invariant _ c.loop-at-test.true
    c.make_next.new.front (rw c.if-branch.false at c.in_ok-make_next.ensures) c.advance.new.front
    advance.Refused (rw c.in-Refused.is at c.in_ok-advance.ensures)

pub returns-in-ManyConfigs-clause-stop : goal.returns-in-ManyConfigs-clause-stop
returns-in-ManyConfigs-clause-stop g c =
    stopped _ _ _ _ _ c.requires.history _ _ c.loop-at.invariant _ c.loop-at-test.true
    c.make_next.new.front (rw c.if-branch.false at c.in_ok-make_next.ensures) c.advance.new.front
    advance.ManyConfigs (rw c.in-ManyConfigs.is at c.in_ok-advance.ensures)

pub returns-in-ManyOpen-clause-stop : goal.returns-in-ManyOpen-clause-stop
returns-in-ManyOpen-clause-stop g c =
    stopped _ _ _ _ _ c.requires.history _ _ c.loop-at.invariant _ c.loop-at-test.true
    c.make_next.new.front (rw c.if-branch.false at c.in_ok-make_next.ensures) c.advance.new.front
    advance.ManyOpen (rw c.in-ManyOpen.is at c.in_ok-advance.ensures)

pub unreachable-requires : goal.unreachable-requires
unreachable-requires g c =
    stopped _ _ _ _ _ c.requires.history _ _ c.loop-at.invariant _ c.loop-at-test.true
    c.make_next.new.front (rw c.if-branch.false at c.in_ok-make_next.ensures) c.advance.new.front
    advance.NoEvent (rw c.in-NoEvent.is at c.in_ok-advance.ensures)

pub returns-clause-all : goal.returns-clause-all
returns-clause-all g c = (follows_end _ _ _ _ _ _ c.loop-at-test.false c.loop-at.invariant).goes.is

pub returns-clause-latest : goal.returns-clause-latest
returns-clause-latest g c =
    (follows_end _ _ _ _ _ _ c.loop-at-test.false c.loop-at.invariant).latest

pub returns-clause-whole : goal.returns-clause-whole
returns-clause-whole g c =
    (follows_end _ _ _ _ _ _ c.loop-at-test.false c.loop-at.invariant).whole

pub returns-clause-explained : goal.returns-clause-explained
returns-clause-explained g c =
    goes_explained _ _ _ _ (follows_end _ _ _ _ _ _ c.loop-at-test.false c.loop-at.invariant).goes
