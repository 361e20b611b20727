use Rattle.iox2_container.proofs.Prelude.{count_by, eqb, rules}
use Rattle.std.proofs.lemmas.Iterator.{YieldsList-from_slice}
use Rattle.std.proofs.lemmas.Iterator.Search.{all_from_yields_List}
use Rattle.iox2_container.proofs.SameContents.{counts_equally_many}
use Rattle.iox2_container.proofs.container.comparison.is_permutation.Goals as goal

pub returns-then-ones-others : goal.returns-then-ones-others
returns-then-ones-others g c =
    let eq = g.T.PartialEq.eq in
    let ones = c.args.ones.now in
    let others = c.args.others.now in
    counts_equally_many eq ones others c.all.result c.if-ones-others.true
    (all_from_yields_List
    (λ x. eqb (count_by (eq x) ones) (count_by (eq x) others)) _ _ _ c.all.ensures.ran
    (YieldsList-from_slice ones cc) (λ x b q k. search rules))
