-- The names that the proofs cite.
pub use Rattle.iox2_config.specs.declared.hash.input.PatternKind.{PatternKind}
pub use Rattle.iox2_container.specs.State.{Entry}
pub use Rattle.iox2_container.specs.Steps.{Visit, is_leaving}
pub use Rattle.iox2_dynamic.proofs.Rooms.{roles_differ}
pub use Rattle.iox2_dynamic.specs.Ports.{CountsIn, ListsIn}
pub use Rattle.iox2_dynamic.specs.Service.{LacksRole, Service, role_at}
pub use Rattle.iox2sd.specs.DeadNodes.{Keeps, Went, counted, is_at_most, is_kept, order_at}
pub use Rattle.iox2sd.specs.Prelude.{ContainerState, Id, Port, PortDetails, Ports, Role, details_where, first_role, id_of, is_of, listed, node_of, number_of, ports_of_node, second_role}
pub use Rattle.iox2sd.specs.declared.values.PortId.{PortId}
pub use Rattle.std.proofs.Common.{Bool, Err, IsTrue, List, None, Ok, Option, Result, Some, [], add-one, ap, arith, false, get_or, inl, inr, length, map, refl, rules, slice_index_or, slice_set, subst, suc, sym, true, true≢false, ℕ, ◌++◌, ◌+◌, ◌-◌, ◌<◌, ◌==◌, ◌↔◌, ◌∙◌, ◌∷◌, ◌≡◌, ◌≤◌}
pub use Rattle.std.proofs.lemmas.List.Sorted.{IsNonDecreasingBy-from_all_adjacent, answers_always}
pub use Rattle.std.proofs.lemmas.List.Sums.{count_by-le-length, length-filter}
pub use Rattle.std.specs.Prelude.{IfNone, IfSome, drop, filter, if◌then◌else◌, not, ◌&&◌, ◌^◌}
