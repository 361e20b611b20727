use Rattle.iox2sd_values.proofs.Sets.{one_set}
use Rattle.iox2sd_values.proofs.laws.pairs_make_one_set.Goals as goal

pub returns : goal.returns
returns c =
    one_set c.args.pairs.now c.sort_unstable.new.self c.sort_unstable.ensures.permutation
    c.sort_unstable.ensures.sorted
