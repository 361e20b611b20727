-- The names of the crates below, and of the declared types, that the definitions cite.
pub use Rattle.iox2_container.specs.State.{ContainerState}
pub use Rattle.iox2_container.specs.Steps.{HasEntry, IsUnknownHandle, TakesEntry, details_where, is_of, listed}
pub use Rattle.iox2_container.specs.declared.container.handle.Role.{Role}
pub use Rattle.iox2_dynamic.specs.Details.{node_of, port_of, role_of}
pub use Rattle.iox2_dynamic.specs.Ports.{IsNeither, IsNoPort, OfRole, Ports, StandsAmong, ports_of_node}
pub use Rattle.iox2_dynamic.specs.Service.{HasRole, PatternCapacities, TakesPort, first_role, fresh_service, second_role}
pub use Rattle.iox2_dynamic.specs.Steps.{AttachStep, DeadStep, DeregisterStep, RegisterStep, ReleaseStep}
pub use Rattle.iox2_dynamic.specs.declared.dynamic_config.answers.DeregisterNodeState.TheVariants.{HasOwners, NoMoreOwners}
pub use Rattle.iox2_dynamic.specs.declared.dynamic_config.port_details.PortDetails.{PortDetails}
pub use Rattle.iox2_ids.specs.PortId.{port_value}
pub use Rattle.iox2sd.specs.declared.service.listings.Listed.{Listed}
pub use Rattle.iox2sd.specs.declared.service.listings.Listed.TheVariants.{All, TooShort}
pub use Rattle.iox2sd.specs.declared.service.roles.Counts.{Counts}
pub use Rattle.iox2sd.specs.declared.values.NodeRemoval.{NodeRemoval}
pub use Rattle.iox2sd.specs.declared.values.NodeRemoval.TheVariants.{Locked, Open, Refused}
pub use Rattle.iox2sd.specs.declared.values.Handle.{Handle}
pub use Rattle.iox2sd.specs.declared.values.HandleAnswer.{HandleAnswer}
pub use Rattle.iox2sd.specs.declared.values.IdAnswer.{IdAnswer}
pub use Rattle.iox2sd.specs.declared.values.NumberAnswer.{NumberAnswer}
pub use Rattle.iox2sd.specs.declared.values.Port.{Port}
pub use Rattle.iox2sd.specs.declared.values.Roles.{Roles}
pub use Rattle.iox2sd_common.specs.Answers.{count_answer}
pub use Rattle.iox2sd_common.specs.Ids.{ReadsNode, ReadsText, id_of, number_of}
pub use Rattle.iox2sd_common.specs.Status.{ReadsStatus, code, status_text}
pub use Rattle.iox2sd_common.specs.declared.id.Id.{Id}
pub use Rattle.iox2sd_common.specs.declared.status.Status.{Status}
