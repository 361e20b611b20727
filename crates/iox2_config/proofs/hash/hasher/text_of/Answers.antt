-- The text is that of twenty bytes.
use Rattle.std.proofs.Common.{rules}
use Rattle.iox2_config.proofs.FileNames.{twenty_bytes}
use Rattle.iox2_config.proofs.hash.hasher.text_of.Goals as goal

pub of_file_name-requires : goal.of_file_name-requires
of_file_name-requires c =
    let whole = twenty_bytes c.args.digest (search rules) (λ i. search rules) in search rules
