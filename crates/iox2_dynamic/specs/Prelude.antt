-- The names of the crates below, and of the declared types, that the definitions cite.
pub use Rattle.iox2_config.specs.declared.hash.input.PatternKind.{PatternKind}
pub use Rattle.iox2_container.specs.Steps.{Adds, RecoversBy, Removes, HasEntry, IsUnknownHandle, TakesEntry, Visit, details_where, entries_of, is_of, listed, release_state}
pub use Rattle.iox2_container.specs.State.{ContainerState, fresh, Handle, Entry, IsRegistry, RegistryState}
pub use Rattle.iox2_container.specs.declared.container.registry.ContainerAddFailure.{ContainerAddFailure}
pub use Rattle.iox2_container.specs.declared.container.registry.ContainerRemoveError.{ContainerRemoveError}
pub use Rattle.iox2_container.specs.declared.container.registry.ReleaseMode.TheVariants.{Default, LockIfLastIndex}
pub use Rattle.iox2_container.specs.declared.container.registry.ReleaseState.{ReleaseState}
pub use Rattle.iox2_container.specs.declared.container.handle.Role.{Role}
pub use Rattle.iox2_dynamic.specs.declared.dynamic_config.answers.DeregisterNodeState.{DeregisterNodeState}
pub use Rattle.iox2_dynamic.specs.declared.dynamic_config.answers.RegisterNodeResult.{RegisterNodeResult}
pub use Rattle.iox2_dynamic.specs.declared.dynamic_config.answers.PortCleanupAction.{PortCleanupAction}
pub use Rattle.iox2_dynamic.specs.declared.dynamic_config.port_details.PortDetails.{PortDetails}
pub use Rattle.iox2_ids.specs.declared.identifiers.port_id.UniquePortId.{UniquePortId}
