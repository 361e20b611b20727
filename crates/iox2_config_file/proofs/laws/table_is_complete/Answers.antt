use Rattle.iox2_config_file.proofs.Rowed.{table_is_complete}
use Rattle.iox2_config_file.proofs.laws.table_is_complete.Goals as goal

pub returns : goal.returns
returns c = table_is_complete
