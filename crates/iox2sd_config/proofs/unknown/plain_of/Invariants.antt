use Rattle.iox2sd_config.proofs.Prelude.{drop, plain_of, ◌++◌, ◌≡◌}
use Rattle.iox2sd_config.proofs.unknown.plain_of.Given as goal

abbrev pub invariant-loop-key : goal.invariant-loop-key
invariant-loop-key l = l.plain.items ++ plain_of (drop l.key-index l.listed) ≡ plain_of l.listed
