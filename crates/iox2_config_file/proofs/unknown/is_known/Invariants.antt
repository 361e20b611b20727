use Rattle.std.proofs.Common.{◌≡◌, drop}
use Rattle.std.specs.Prelude.{map}
use Rattle.iox2_config_file.specs.Read.{row_view}
use Rattle.iox2_config_file.specs.Unknown.{is_known}
use Rattle.iox2_config_file.proofs.unknown.is_known.Given as goal

abbrev pub invariant-loop-row : goal.invariant-loop-row
invariant-loop-row l =
    is_known l.key (map row_view (drop l.row-index l.rows))
    ≡ is_known l.key (map row_view l.rows)
