use Rattle.histories.proofs.Words.{◌≡◌, length, replicate, ap}
use Rattle.histories.proofs.Chains.{chained_none, copies}
use Rattle.histories.proofs.gather.link_all.Goals as goal

pub link_rest-requires-2-clause-chained : goal.link_rest-requires-2-clause-chained
link_rest-requires-2-clause-chained g c =
    let zeros : c.in_ok-heads.field-0.items ≡ replicate 1021 0 =
    c.in_ok-heads.ensures.items_if_clones_equal (λ y same. same) in
    rw (c.deref_mut-2.ensures.value, zeros) (chained_none g.M.Machine.hash _ _ _
    (ap length c.clear.ensures.items) (λ number. copies 1021 number _))
