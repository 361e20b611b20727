use Rattle.iox2sd_config.proofs.Prelude.{drop, paths_of, string_bytes, ◌++◌, ◌≡◌}
use Rattle.iox2sd_config.proofs.unknown.paths_of.Given as goal

abbrev pub invariant-loop-key : goal.invariant-loop-key
invariant-loop-key l =
    string_bytes l.text ++ paths_of (drop l.key-index l.listed) ≡ paths_of l.listed
