-- Whether settings describe a service.
use Rattle.std.specs.Prelude.{◌≡◌}
use Rattle.iox2_config.specs.declared.hash.input.PatternKind.TheVariants as kind
use Rattle.iox2_static.specs.declared.static_config.publish_subscribe.StaticConfig.{StaticConfig}
use Rattle.iox2_dynamic.specs.Service.{Service}

-- the service has the pattern and the capacities that these settings say
pub record IsAsDescribed (settings : StaticConfig) (s : Service) : Type 0 where
  pub pattern : s.pattern ≡ kind.PublishSubscribe
  pub nodes : s.nodes.registry.capacity ≡ settings.max_nodes
  pub publishers : s.ports.first.registry.capacity ≡ settings.max_publishers
  pub subscribers : s.ports.second.registry.capacity ≡ settings.max_subscribers
