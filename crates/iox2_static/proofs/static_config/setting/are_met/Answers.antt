-- All are met exactly where the first that is not is none.
use Rattle.iox2_static.proofs.Requirements.{met_where_none}
use Rattle.iox2_static.proofs.static_config.setting.are_met.Goals as goal

pub returns : goal.returns
returns c =
    met_where_none c.args.requirements.now c.first_unmet.result c.is_none.result
    c.first_unmet.ensures c.is_none.ensures
