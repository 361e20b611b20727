-- A service may be sent to another thread.
use denote.RattleType.{RattleType}
use denote.Enum.Declared as enum
use denote.Enum.Enum.{Enum}
use denote.Param.Send.{IsSend, enum_send, recorded_send, sendable, view_send}
use denote.Param.SendFields.{declared_send}
use Rattle.std.specs.declared.clone.Clone.{Ghosts as CloneGhosts}
use Rattle.iox2_ids.specs.contracts.identifiers.unique_id.UniqueNodeId as NodeId
use Rattle.iox2_container.proofs.Sending.{ListContainer-send}
use Rattle.iox2_dynamic.specs.contracts.dynamic_config.port_details.ClientDetails as Client
use Rattle.iox2_dynamic.specs.contracts.dynamic_config.port_details.ListenerDetails as Listener
use Rattle.iox2_dynamic.specs.contracts.dynamic_config.port_details.NotifierDetails as Notifier
use Rattle.iox2_dynamic.specs.contracts.dynamic_config.port_details.PublisherDetails as Publisher
use Rattle.iox2_dynamic.specs.contracts.dynamic_config.port_details.ReaderDetails as Reader
use Rattle.iox2_dynamic.specs.contracts.dynamic_config.port_details.ServerDetails as Server
use Rattle.iox2_dynamic.specs.contracts.dynamic_config.port_details.SubscriberDetails as Subscriber
use Rattle.iox2_dynamic.specs.contracts.dynamic_config.port_details.WriterDetails as Writer
use Rattle.iox2_dynamic.specs.contracts.dynamic_config.pattern.MessagingPattern as MessagingPattern
use Rattle.iox2_dynamic.specs.contracts.dynamic_config.pattern.PortRegistries as PortRegistries
use Rattle.iox2_dynamic.specs.contracts.dynamic_config.pattern.PortRegistries.TheInside as PortsInside
use Rattle.iox2_dynamic.specs.contracts.dynamic_config.service.DynamicConfig as DynamicConfig
use Rattle.iox2_dynamic.specs.contracts.dynamic_config.service.DynamicConfig.TheInside as Inside

-- how details are cloned says nothing of whether they may be sent
clones : (D : Type 0) → CloneGhosts D
clones D = record { is_clone = λ _ _. Unit {0}; is_infallible = λ _. Unit {0} }

-- the searches of three and more fields take too many steps at once
server : IsSend Server.the_row
server = declared_send Server.the_type
    (search sendable depth 20, (search sendable depth 20, search sendable depth 20))

client : IsSend Client.the_row
client = declared_send Client.the_type
    (search sendable depth 20, (search sendable depth 20, search sendable depth 20))

publisher : IsSend Publisher.the_row
publisher = declared_send Publisher.the_type (search sendable depth 20, search sendable depth 20)

subscriber : IsSend Subscriber.the_row
subscriber = search sendable depth 20

listener : IsSend Listener.the_row
listener = search sendable depth 20

notifier : IsSend Notifier.the_row
notifier = search sendable depth 20

reader : IsSend Reader.the_row
reader = search sendable depth 20

writer : IsSend Writer.the_row
writer = search sendable depth 20

node : IsSend NodeId.the_row
node = search sendable depth 20

ports_send : (A B : RattleType) → IsSend A → IsSend B
    → IsSend (PortRegistries.the_row A B (clones A.Denot) (clones B.Denot))
ports_send A B s t =
    let a = clones A.Denot in
    let b = clones B.Denot in
    view_send (PortsInside.the_row A B a b) _ _ _ _
    (declared_send (PortsInside.the_type A B a b)
    (ListContainer-send A a s, (ListContainer-send B b t, tt)))

pattern : IsSend MessagingPattern.the_row
pattern =
    let shape = enum.shape MessagingPattern.the_type in
    recorded_send (Enum shape) _ _ MessagingPattern.the_type.to_one
    (enum_send shape (
      (ports_send Server.the_row Client.the_row server client, tt),
      (
        (ports_send Publisher.the_row Subscriber.the_row publisher subscriber, tt),
        (
          (ports_send Listener.the_row Notifier.the_row listener notifier, tt),
          ((ports_send Reader.the_row Writer.the_row reader writer, tt), tt),
        ),
      ),
    ))

inside : IsSend Inside.the_row
inside = declared_send Inside.the_type
    (pattern, (ListContainer-send NodeId.the_row (clones (NodeId.the_row).Denot) node, tt))

pub DynamicConfig-send : IsSend DynamicConfig.the_row
DynamicConfig-send = view_send Inside.the_row _ _ _ _ inside
