-- What a contract sees of the settings of a whole system.
use Rattle.std.specs.Prelude.{ℕ, List}
use Rattle.std.specs.declared.time.Duration.{Duration}
use Rattle.iox2_config.specs.declared.config.global.Service.{Service}
use Rattle.iox2_config.specs.declared.config.global.Node.{Node}

-- the root path and the public settings beside it
pub record GlobalSettings : Type 0 where
  pub root_path : List ℕ
  pub prefix : List ℕ
  pub service : Service
  pub node : Node
  pub creation_timeout : Duration
