use Rattle.std.proofs.Common.{◌≡◌, drop}
use Rattle.std.specs.Prelude.{map}
use Rattle.std.specs.List.{find}
use Rattle.iox2_config_file.specs.Read.{row_view}
use Rattle.iox2_config_file.specs.Unknown.{is_wanted, keys_of, wanted_view}
use Rattle.iox2_config_file.proofs.proposal.find_among.Given as goal

abbrev pub invariant-loop-row : goal.invariant-loop-row
invariant-loop-row l =
    let found = find (is_wanted (wanted_view l.wanted)) in
    found (keys_of l.section (map row_view (drop l.row-index l.rows)))
    ≡ found (keys_of l.section (map row_view l.rows))
