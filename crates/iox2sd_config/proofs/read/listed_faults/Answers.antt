use Rattle.iox2sd_config.proofs.Prelude.{answers_always, fault_sort_key, rules, subst}
use Rattle.config_report.specs.Findings.{IsInOrder}
use Rattle.iox2sd_config.proofs.read.listed_faults.Goals as goal

pub returns : goal.returns
returns c =
    let sorted = c.in_ok-sort_by_key.ensures in
    subst (λ found. IsInOrder fault_sort_key found c.sort_by_key.new.self.items)
    c.in_ok-plain.ensures (record {
      same = sorted.permutation;
      ordered = sorted.sorted fault_sort_key (answers_always _ _ _ (λ f a r q k. search rules));
      stable = sorted.stable fault_sort_key (answers_always _ _ _ (λ f a r q k. search rules));
    })
