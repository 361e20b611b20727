-- The digest is twenty bytes.
use Rattle.std.proofs.Common.{rules}
use Rattle.iox2_config.proofs.FileNames.{twenty_bytes}
use Rattle.iox2_config.proofs.laws.sha1_texts_are_file_names.Goals as goal

pub returns : goal.returns
returns c =
    let named = twenty_bytes c.digest-digest.result (search rules) (λ i. search rules) in
    rw (← c.digest-digest.ensures) (record { restricted = named.restricted; size = named.size })
