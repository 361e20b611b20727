-- Static configurations of blackboard services.
use Rattle.iox2_config.specs.declared.config.defaults.Blackboard.{Blackboard}
use Rattle.iox2_config.specs.TypeDetailParts.{default_detail}
use Rattle.iox2_static.specs.declared.static_config.blackboard.StaticConfig.{StaticConfig}

-- what is made of the defaults of a configuration
abbrev pub blackboard_of : Blackboard → StaticConfig
blackboard_of defaults = record {
  max_readers = defaults.max_readers;
  max_writers = 1;
  max_nodes = defaults.max_nodes;
  type_details = default_detail;
}
