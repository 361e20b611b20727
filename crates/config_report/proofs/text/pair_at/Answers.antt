use Rattle.config_report.proofs.Prelude.{slice_get-get_or}
use Rattle.config_report.proofs.Pairs.{pair_here}
use Rattle.config_report.proofs.text.pair_at.Goals as goal

pub returns : goal.returns
returns c =
    pair_here c.args.rows.now _ _ _ c.args.index _ _ _ c.requires.rows
    (slice_get-get_or c.args.rows.now c.args.index _ c.requires.inside) c.in_ok-value.ensures
    c.in_ok-other.ensures
