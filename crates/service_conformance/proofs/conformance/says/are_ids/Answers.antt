use Rattle.std.proofs.Common.{arith, rules}
use Rattle.service_conformance.proofs.Seen.{ids_differ, ids_end, ids_go_on}
use Rattle.service_conformance.proofs.conformance.says.are_ids.Goals.{then-loop-at-test+else-at-ids, else-loop-at-test}
use Rattle.service_conformance.proofs.conformance.says.are_ids.Goals as goal

pub returns-then-one-other : goal.returns-then-one-other
returns-then-one-other g c =
    let never =
    ids_differ g.T.Attached.number c.args.items.now c.args.ids.now c.loop-at.at
    (omega (arith, c.loop-at-test.true)) (omega (arith, c.if-at-ids.true)) c.index-items-at.result
    c.index-items-at.is c.key-one.result c.key-one.ensures (search rules) (search rules)
    (search rules) in
    (λ no. (cc), λ e. absurd (never (c.loop-at.invariant.same.0 e)))

pub loop-at-preserved : goal.loop-at-preserved
loop-at-preserved g c =
    let on =
    ids_go_on g.T.Attached.number c.args.items.now c.args.ids.now c.loop-at.at
    (omega (arith, c.loop-at-test.true)) (omega (arith, c.if-at-ids.true)) c.index-items-at.result
    c.index-items-at.is c.key-one.result c.key-one.ensures (search rules) in
    record {
      items = omega (arith, c.loop-at-test.true);
      ids = omega (arith, c.if-at-ids.true);
      same = (
        λ e. on.0 (c.loop-at.invariant.same.0 e),
        λ e. c.loop-at.invariant.same.1 (on.1 e),
      );
    }

pub returns : goal.returns
returns g c =
    let same = c.loop-at.invariant.same in
    let end =
    ids_end g.T.Attached.number c.args.items.now c.args.ids.now c.loop-at.at
    c.loop-at.invariant.items c.loop-at.invariant.ids
    (λ p q. elim c.loop-at-test.branch [
      | then-loop-at-test+else-at-ids w ↦ omega (arith, q, w.if-at-ids.false)
      | else-loop-at-test w ↦ omega (arith, p, w.loop-at-test.false)
    ]) in (
      λ yes. same.1 (end.0 (search (rules, yes))),
      λ e. (let n = end.1 (same.0 e) in search (rules, n)),
    )
