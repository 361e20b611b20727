-- The number of a port's id.
use Rattle.std.specs.Prelude.{ℕ}
use Rattle.iox2_ids.specs.declared.identifiers.port_id.UniquePortId.{UniquePortId}
use Rattle.iox2_ids.specs.declared.identifiers.port_id.UniquePortId.TheVariants.{Publisher, Subscriber, Notifier, Listener, Client, Server, Reader, Writer}

abbrev pub port_value : UniquePortId → ℕ
port_value (Publisher id) = id
port_value (Subscriber id) = id
port_value (Notifier id) = id
port_value (Listener id) = id
port_value (Client id) = id
port_value (Server id) = id
port_value (Reader id) = id
port_value (Writer id) = id
