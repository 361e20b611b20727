use Rattle.std.proofs.Common.{◌≡◌, drop}
use Rattle.std.specs.Prelude.{map, option_map}
use Rattle.iox2_config_file.specs.Read.{row_view}
use Rattle.iox2_config_file.specs.Unknown.{keys_of, nearest_below}
use Rattle.iox2_config_file.proofs.Nearest.{nearest_from}
use Rattle.iox2_config_file.proofs.proposal.nearest_below.Given as goal

abbrev pub invariant-loop-row : goal.invariant-loop-row
invariant-loop-row l =
    nearest_from l.key l.limit (option_map (λ p. (p.0, p.1.now)) l.found)
    (keys_of l.section (map row_view (drop l.row-index l.rows)))
    ≡ nearest_below l.key l.below (keys_of l.section (map row_view l.rows))
