use Rattle.iox2sd_values.proofs.Sets.{sorts}
use Rattle.iox2sd_values.proofs.attributes.sorted.Goals as goal

pub returns : goal.returns
returns c =
    sorts c.args.pairs.now _ c.sort_unstable.new.self _ c.copy_from_slice.ensures.after
    c.sort_unstable.ensures.permutation c.sort_unstable.ensures.sorted
