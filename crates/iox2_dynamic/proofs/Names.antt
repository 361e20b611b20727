-- The names that the proofs cite.
pub use Rattle.iox2_dynamic.specs.Prelude.{Adds, ContainerAddFailure, ContainerState, Default, DeregisterNodeState, Entry, Handle, HasEntry, IsRegistry, LockIfLastIndex, PatternKind, PortCleanupAction, PortDetails, RecoversBy, RegistryState, ReleaseState, Removes, Role, TakesEntry, UniquePortId, Visit, details_where, entries_of, fresh, is_of, listed, release_state}
pub use Rattle.iox2_container.specs.Steps.{CanBeCalled, CanVisit, AddStep, CalledInTurn, InsertsOne, Leaves, RecoverStep, RemoveStep, candidates, is_leaving, marks_of, staying}
pub use Rattle.iox2_container.specs.State.{container_as, entry_as, registry_as}
pub use Rattle.iox2_container.specs.declared.container.registry.ContainerAddFailure.TheVariants.{IsLocked, OutOfSpace}
pub use Rattle.iox2_dynamic.specs.Details.{node_of, port_of, role_of}
pub use Rattle.iox2_dynamic.specs.Patterns.{service_in}
pub use Rattle.iox2_dynamic.specs.Ports.{AddsTo, CanListIn, Ports, RecoversBoth, RemovesFrom, TakesIn, has_ports_of, Side, of_side, other_side, side_of, CallsCleanup, RecoversNodes, RecoversPorts}
pub use Rattle.iox2_dynamic.specs.Ports.Side.{First, Second}
pub use Rattle.iox2_dynamic.specs.Service.{ArePorts, HasNoPort, HasRole, LacksRole, IsPortRegistry, IsService, PatternCapacities, Registered, Service, TakesPort, entries_of_node, first_role, fresh_ports, fresh_service, role_at, second_role}
pub use Rattle.iox2_dynamic.specs.Steps.{Admits, AttachStep, AttachesTo, DeadStep, NodesAfter, RegisterStep, is_last_of_ports}
pub use Rattle.iox2_dynamic.specs.declared.dynamic_config.answers.AttachError.{AttachError}
pub use Rattle.iox2_dynamic.specs.declared.dynamic_config.answers.AttachError.TheVariants.{ServiceIsLocked, NodeNotRegistered, OutOfSpace as NoSpace}
