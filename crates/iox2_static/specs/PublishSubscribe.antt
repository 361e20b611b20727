-- Static configurations of publish-subscribe services.
use Rattle.std.specs.Prelude.{ℕ, ◌+◌, List, [], ◌∷◌, ◌++◌, replicate}
use Rattle.iox2_config.specs.declared.config.defaults.PublishSubscribe.{PublishSubscribe}
use Rattle.iox2_config.specs.DefaultTypes.{default_details}
use Rattle.iox2_static.specs.declared.static_config.publish_subscribe.StaticConfig.{StaticConfig}

-- what is made of the defaults of a configuration
abbrev pub publish_subscribe_of : PublishSubscribe → StaticConfig
publish_subscribe_of defaults = record {
  max_subscribers = defaults.max_subscribers;
  max_publishers = defaults.max_publishers;
  max_nodes = defaults.max_nodes;
  history_size = defaults.publisher_history_size;
  subscriber_max_buffer_size = defaults.subscriber_max_buffer_size;
  subscriber_max_borrowed_samples = defaults.subscriber_max_borrowed_samples;
  enable_safe_overflow = defaults.enable_safe_overflow;
  message_type_details = default_details;
}

-- how many samples each subscriber can hold, how many the
-- publisher keeps as its history, and how many it has loaned
abbrev pub sample_limits : StaticConfig → ℕ → List ℕ
sample_limits s loans =
    replicate s.max_subscribers (s.subscriber_max_buffer_size + s.subscriber_max_borrowed_samples)
    ++ s.history_size ∷ loans ∷ []
