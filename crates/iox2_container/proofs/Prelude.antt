-- The words that proofs of this crate are made of: those of std, and the definitions of this crate
-- with the types that they are of.
pub use Rattle.std.proofs.Common.{[], ◌++◌, ◌+◌, ◌-◌, ◌<◌, ◌↔◌, ◌∙◌, ◌∷◌, ◌≡◌, ◌≢◌, ◌≤◌, ◌⊎◌, Any, Bool, Contains, Err, IsTrue, List, None, Ok, Option, Result, Some, ℕ, add-one, ap, arith, cond, count_by, drop, false, get_or, inl, inr, length, length-append, map, refl, replicate, rules, subst, suc, sym, take, true, zero}
pub use Rattle.std.proofs.Math.Dec.{eqb}
pub use Rattle.std.proofs.Math.ListN.{length-set}
pub use Rattle.std.proofs.lemmas.Bool.{eq-eqb, eqb-true, lt-ltb, ne_eqb}
pub use Rattle.std.proofs.lemmas.Bool.Decides.{leb_tells}
pub use Rattle.std.proofs.lemmas.List.{append-nil, append_assoc, get_or-set_same, length-map, length-replicate, length-take, map-append, map-id, map-set, set-get_or, set-set, take_more}
pub use Rattle.std.proofs.lemmas.List.Elements.{All-append, All-cons, All-drop, All-filter, All-head, All-map, All-nil, All-tail, All-take, All-weaker, AllZip-push, filter-append, filter_agree}
pub use Rattle.std.proofs.lemmas.List.Kept.{AllPairs-cons, AllPairs-filter}
pub use Rattle.std.proofs.lemmas.List.Sorted.{IsPermutation-cons, IsPermutation-middle, IsPermutation-refl, IsPermutation-sym, IsPermutation-trans, length_permutation, sum_by-IsPermutation}
pub use Rattle.std.proofs.lemmas.Option.{get_or_from_slice_get, same_Some, slice_get-map, slice_get_read, slice_get_within}
pub use Rattle.std.proofs.lemmas.Simd.{map-map}
pub use Rattle.std.specs.Bool.{MatchBool}
pub use Rattle.std.specs.Fn.{Called, CalledAt, Mut, Takes, TakesAt}
pub use Rattle.std.specs.List.{AllZip, cons_option, list_all}
pub use Rattle.std.specs.List.Sorted.{IsPermutation}
pub use Rattle.std.specs.Prelude.{⊤, ◌&&◌, ◌==◌, All, AllPairs, IsSome, MatchOption, filter, if◌then◌else◌, nat_lt, not, slice_get, slice_index_or, slice_set, vec_capacity, vec_len}
pub use Rattle.iox2_container.specs.Calls.{AgreesBy, EquallyMany, Answered, CallRun, CallStep, Made, RemoveGiven, SameKind, SameReply, handle_given, handle_in, is_outside, reply_of_add, reply_of_remove}
pub use Rattle.iox2_container.specs.Steps.{CanBeCalled, CanVisit, MayCall, MayVisit, Adds, Changes, RecoversBy, Removes, AddStep, CalledInTurn, Enters, HasEntry, HasRoom, InsertsOne, IsFull, IsUnknownHandle, Leaves, RecoverStep, Recovers, RemoveStep, Visit, details_where, candidates, entries_of, is_leaving, is_of, leaving, listed, lock_after, marks_of, release_state, staying}
pub use Rattle.iox2_container.specs.Cells.{occupant, shown, AreRegistry, registry_of, Finds, IsTakenAt, NoneFrom, entries_from}
pub use Rattle.iox2_container.specs.State.{ContainerState, container, fresh, Handle, container_as, entry_as, registry_as, Entry, IsRegistry, RegistryState, handle_of}
pub use Rattle.iox2_container.specs.FreeList.{IsFreeAt, IsFreeList, LeadsThrough, Linked, PutsFirst, TakesFirst, TakesLastFreed}
pub use Rattle.iox2_container.specs.Histories.{Change, ChangeStep, History, IsNew, IsRefused, Remains, TakesOut, handle_given_by, handles_given}
pub use Rattle.iox2_container.specs.Histories.Change.{Adding, Recovering, Removing}
pub use Rattle.iox2_container.specs.Passes.{AreOthers, CalledOnCell, IsLastOf, IsNextOf, SlotIsOf, Swept, TakesCell, cell_is_of}
pub use Rattle.iox2_container.specs.declared.container.comparison.RegistryCall.{RegistryCall}
pub use Rattle.iox2_container.specs.declared.container.comparison.RegistryReply.{RegistryReply}
pub use Rattle.iox2_container.specs.declared.container.passes.Found.{Found}
pub use Rattle.iox2_container.specs.declared.container.registry.ContainerAddFailure.{ContainerAddFailure}
pub use Rattle.iox2_container.specs.declared.container.registry.ContainerAddFailure.TheVariants.{IsLocked, OutOfSpace}
pub use Rattle.iox2_container.specs.declared.container.registry.ContainerRemoveError.{ContainerRemoveError}
pub use Rattle.iox2_container.specs.declared.container.registry.ReleaseMode.{ReleaseMode}
pub use Rattle.iox2_container.specs.declared.container.registry.ReleaseMode.TheVariants.{Default, LockIfLastIndex}
pub use Rattle.iox2_container.specs.declared.container.registry.ReleaseState.{ReleaseState}
pub use Rattle.iox2_container.specs.declared.container.handle.Role.{Role}
pub use Rattle.iox2_container.specs.declared.container.counted_map.RegistryHeader.{RegistryHeader}
pub use Rattle.iox2_container.specs.declared.container.slot_map.slots.Cell.{Cell}
pub use Rattle.iox2_container.specs.declared.container.slot_map.slots.Cell.TheVariants.{Free, Taken}
pub use Rattle.iox2_container.specs.declared.container.slot_map.slots.Occupant.{Occupant}
pub use Rattle.iox2_texts.specs.Attribute.{Visits}
pub use Rattle.iox2_texts.specs.declared.bounded.CallbackProgression.{CallbackProgression}
pub use Rattle.iox2_texts.specs.declared.bounded.CallbackProgression.TheVariants.{Continue, Stop}
