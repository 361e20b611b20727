-- Static configurations of event services.
use Rattle.std.specs.Prelude.{Option, Some, None}
use Rattle.std.specs.declared.time.Duration.{Duration}
use Rattle.iox2_config.specs.declared.config.defaults.Event.{Event}
use Rattle.iox2_static.specs.declared.static_config.event.Deadline.{Deadline}
use Rattle.iox2_static.specs.declared.static_config.event.StaticConfig.{StaticConfig}

-- a deadline made at the default time
abbrev pub deadline_of : Option Duration → Option Deadline
deadline_of None = None
deadline_of (Some value) =
    Some (record { creation_time = record { seconds = 0; nanoseconds = 0 }; value = value })

-- the duration of a deadline
abbrev pub duration_of : Option Deadline → Option Duration
duration_of None = None
duration_of (Some deadline) = Some deadline.value

-- what is made of the defaults of a configuration
abbrev pub event_of : Event → StaticConfig
event_of defaults = record {
  max_notifiers = defaults.max_notifiers;
  max_listeners = defaults.max_listeners;
  max_nodes = defaults.max_nodes;
  event_id_max_value = defaults.event_id_max_value;
  deadline = deadline_of defaults.deadline;
  notifier_created_event = defaults.notifier_created_event;
  notifier_dropped_event = defaults.notifier_dropped_event;
  notifier_dead_event = defaults.notifier_dead_event;
}
