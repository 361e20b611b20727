use Rattle.iox2_container.proofs.Prelude.{AgreesBy, AllZip, arith}
use Rattle.iox2_container.proofs.SameContents.{same_kind_agrees, one_longer, made_more, made_still, same_made}
use Rattle.iox2_container.proofs.container.comparison.compare.Goals as goal

pub loop-call-preserved : goal.loop-call-preserved
loop-call-preserved g c = grind (arith, made_more, one_longer)

pub returns-clause-same_kind : goal.returns-clause-same_kind
returns-clause-same_kind g c = grind (arith, same_made)

pub returns-clause-answer : goal.returns-clause-answer
returns-clause-answer g c =
    let agree : AllZip
    (AgreesBy g.T.PartialEq.eq) c.loop-call.replies_a.items c.loop-call.replies_b.items =
    same_kind_agrees g.T.PartialEq.eq _ _ (returns-clause-same_kind g c) in
    c.is_same_kind.ensures.1 (rw (c.deref.ensures.value, c.deref-2.ensures.value) agree)

pub returns-in_err-serve_both-clause-same_kind : goal.returns-in_err-serve_both-clause-same_kind
returns-in_err-serve_both-clause-same_kind g c = grind (arith, same_made, made_still)
