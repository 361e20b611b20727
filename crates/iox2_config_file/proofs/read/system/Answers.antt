use Rattle.std.proofs.Common.{rules}
use Rattle.iox2_config_file.proofs.read.system.Goals as goal

pub returns-clause-global : goal.returns-clause-global
returns-clause-global c = rw (← c.section_table-table.ensures) (search rules)
