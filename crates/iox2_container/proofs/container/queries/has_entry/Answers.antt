use Rattle.iox2_container.proofs.Prelude.{arith, map, shown}
use Rattle.iox2_container.proofs.Counting.{newest_found, newest_missed, some_counted, finds_last}
use Rattle.iox2_container.proofs.container.queries.has_entry.Goals as goal

pub returns-then-has_between-clause-has : goal.returns-then-has_between-clause-has
returns-then-has_between-clause-has g c =
    rw c.if-has_between.true
    (some_counted g.T.Attached.node c.args.node.now (map shown c.args.slots.now.cells) _
    c.if-has_between.ensures.has.here)

pub returns-else-has_between-clause-has : goal.returns-else-has_between-clause-has
returns-else-has_between-clause-has g c =
    finds_last g.T.Attached.node c.args.node.now (map shown c.args.slots.now.cells)
    c.min-middle.result _ c.args.end _ _ _ c.requires.free c.if-has_between.ensures.has
    (omega arith) c.has_between-else-has_between.ensures.has

pub returns-then-has_between-clause-newest : goal.returns-then-has_between-clause-newest
returns-then-has_between-clause-newest g c = λ slot is has.
    newest_found g.T.Attached.node c.args.node.now (map shown c.args.slots.now.cells)
    c.args.end c.min-middle.result slot c.requires.free (λ l. omega (arith, l, is)) has _ _
    c.if-has_between.ensures.has

pub returns-else-has_between-clause-newest : goal.returns-else-has_between-clause-newest
returns-else-has_between-clause-newest g c = λ slot is has.
    absurd (newest_missed g.T.Attached.node c.args.node.now (map shown c.args.slots.now.cells)
    c.args.end c.min-middle.result slot c.requires.free (λ l. omega (arith, l, is)) has
    c.if-has_between.ensures.has)
