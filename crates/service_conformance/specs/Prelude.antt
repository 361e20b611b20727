-- Names that the definitions cite, of the crates below and of modules of std beside its prelude.
pub use Rattle.histories.specs.Histories.{IsExplained, calls_alone}
pub use Rattle.iox2_config.specs.declared.hash.input.PatternKind.{PatternKind}
pub use Rattle.iox2_container.specs.State.{ContainerState, container, Handle, Entry, IsRegistry, RegistryState, handle_of}
pub use Rattle.iox2_container.specs.Steps.{IsFull, TakesEntry, is_of, listed, lock_after}
pub use Rattle.iox2_container.specs.declared.container.registry.ContainerAddFailure.{ContainerAddFailure}
pub use Rattle.iox2_container.specs.declared.container.registry.ContainerAddFailure.TheVariants.{IsLocked, OutOfSpace}
pub use Rattle.iox2_container.specs.declared.container.registry.ReleaseMode.{ReleaseMode}
pub use Rattle.iox2_container.specs.declared.container.registry.ReleaseMode.TheVariants.{LockIfLastIndex}
pub use Rattle.iox2_container.specs.declared.container.handle.Role.{Role}
pub use Rattle.iox2_dynamic.specs.Details.{node_of, port_of, role_of}
pub use Rattle.iox2_dynamic.specs.Ports.{IsNeither, Ports, has_ports_of, Side, of_side}
pub use Rattle.iox2_dynamic.specs.Ports.Side.{First, Second}
pub use Rattle.iox2_dynamic.specs.Service.{IsService, Service, first_role, role_at, second_role}
pub use Rattle.iox2_dynamic.specs.declared.dynamic_config.port_details.PortDetails.{PortDetails}
pub use Rattle.iox2_ids.specs.Packing.{hexadecimal}
pub use Rattle.iox2_ids.specs.PortId.{port_value}
pub use Rattle.line_streams.specs.Spelling.{Spelling}
pub use Rattle.service_descriptions.specs.Fields.{KeepsHandles}
pub use Rattle.service_descriptions.specs.Steps.{named, Run, Serves, State}
pub use Rattle.service_descriptions.specs.Lines.{IsId, plain_of}
pub use Rattle.service_descriptions.specs.Replies.{IsSameReply, id_word, text_of}
pub use Rattle.service_descriptions.specs.declared.replay.machine.command.Cleanup.TheVariants.{ByPort}
pub use Rattle.service_descriptions.specs.declared.replay.machine.command.Command.{Command}
pub use Rattle.service_descriptions.specs.declared.replay.machine.reply.Reply.{Reply}
pub use Rattle.std.specs.Fmt.{decimal}
pub use Rattle.std.specs.Global.{Vec}
pub use Rattle.std.specs.List.{AllByRecursion, Contains, filter_map, flat_map, list_any}
pub use Rattle.std.specs.Option.{option_map}
