-- The names of the crates below, and of the declared types, that the definitions cite.
pub use Rattle.iox2_config.specs.Hashing.{pattern_word}
pub use Rattle.iox2_dynamic.specs.Details.{node_of, port_of, role_of}
pub use Rattle.iox2_dynamic.specs.Ports.{CountsIn, OfRole, Ports}
pub use Rattle.iox2_dynamic.specs.Prelude.{ContainerState, Handle, PatternKind, Role, UniquePortId, listed}
pub use Rattle.iox2_dynamic.specs.declared.dynamic_config.answers.DeregisterNodeState.{DeregisterNodeState}
pub use Rattle.iox2_dynamic.specs.declared.dynamic_config.answers.PortCleanupAction.{PortCleanupAction}
pub use Rattle.iox2_dynamic.specs.declared.dynamic_config.port_details.PortDetails.{PortDetails}
pub use Rattle.iox2_dynamic.specs.Service.{HasRole, IsService, LacksRole, PatternCapacities, Service, first_role, fresh_service, second_role}
pub use Rattle.iox2_dynamic.specs.Steps.{AttachStep, DeadStep, DeregisterStep, RegisterStep, ReleaseStep}
pub use Rattle.iox2_ids.specs.Packing.{counter_of, hexadecimal, nanoseconds_of, owner_of, packed, process_of, seconds_of}
pub use Rattle.iox2_ids.specs.PortId.{port_value}
pub use Rattle.iox2_static.specs.Description.{Description}
pub use Rattle.iox2_texts.specs.VerifyErrors.{Verifies, verification_error_text}
pub use Rattle.line_streams.specs.Spelling.{EndsNumber, OneWay, Reads, Spelling, after, line_end, number, sequence}
pub use Rattle.service_descriptions.specs.declared.replay.lines.script.ScriptError.{ScriptError}
pub use Rattle.service_descriptions.specs.declared.replay.lines.line.ServiceLine.{ServiceLine}
pub use Rattle.service_descriptions.specs.declared.replay.machine.command.Cleanup.TheVariants.{ByOrder, ByPort}
pub use Rattle.service_descriptions.specs.declared.replay.machine.command.Command.{Command}
pub use Rattle.service_descriptions.specs.declared.replay.machine.reply.Reply.{Reply}
pub use Rattle.std.specs.Fmt.{decimal}
pub use Rattle.std.specs.List.{AllByRecursion, flat_map, join_with_byte, list_any}
