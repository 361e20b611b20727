use Rattle.iox2sd_config.proofs.Prelude.{answers_always, named_sort_key, rules}
use Rattle.iox2sd_config.proofs.unknown.listed_keys.Goals as goal

pub returns : goal.returns
returns c =
    let sorted = c.in_ok-sort_by_key.ensures in (
      c.in_ok-named.named.items,
      c.in_ok-named.ensures,
      record {
        same = sorted.permutation;
        ordered = sorted.sorted named_sort_key (answers_always _ _ _ (λ f a r q k. search rules));
        stable = sorted.stable named_sort_key (answers_always _ _ _ (λ f a r q k. search rules));
      },
    )
