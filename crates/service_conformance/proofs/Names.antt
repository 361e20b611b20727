-- The words and lemmas of std, and the definitions and types, that the proofs cite.
pub use Rattle.std.proofs.Common.{Bool, Err, List, None, Ok, OnOk, Option, Result, Some, [], ap, append_assoc, arith, codes, cond, drop, false, get_or, inl, inr, length, length-drop, map, refl, rules, subst, suc, sym, take, tests, true, zero, ℕ, ◌++◌, ◌+◌, ◌<◌, ◌^◌, ◌↔◌, ◌∙◌, ◌∷◌, ◌≡◌, ◌≢◌, ◌≤◌, ◌⊎◌}
pub use Rattle.std.proofs.Math.Bool.{and-true, not-not}
pub use Rattle.std.proofs.Math.Seq.{split_at}
pub use Rattle.std.proofs.lemmas.Bool.{and_parts, cases_Bool, cases_lt, cases_order, eq-eqb, eqb-true, false_from_ne_true, lt-ltb, ltb-true, ne_eqb, or_cases}
pub use Rattle.std.proofs.lemmas.Bool.Decides.{nat_tests}
pub use Rattle.std.proofs.lemmas.Cmp.{ranked}
pub use Rattle.std.proofs.lemmas.Fmt.{decimal_injective}
pub use Rattle.std.proofs.lemmas.Fn.{filter_same}
pub use Rattle.std.proofs.lemmas.Iterator.{IsFirst-from_position, YieldsList-from_slice}
pub use Rattle.std.proofs.lemmas.List.{append-nil, append_cancel_left, get_or-drop, get_or-map, get_or-take, length-map, length-take, map-id, nil_from_length, take-append-drop, take_more}
pub use Rattle.std.proofs.lemmas.List.Elements.{All-append, All-cons, All-filter, All-head, All-map, All-nil, All-push, All-tail, All-weaker, Contains-append_left, Contains-push, filter_map-append, filter_passes}
pub use Rattle.std.proofs.lemmas.List.Filters.{length-filter_both}
pub use Rattle.std.proofs.lemmas.List.Kept.{AllPairs-cons, AllPairs-filter}
pub use Rattle.std.proofs.lemmas.List.Quantifiers.{all_pairs_push}
pub use Rattle.std.proofs.lemmas.List.Sorted.{answers_always}
pub use Rattle.std.proofs.lemmas.Option.{get_or_from_slice_get, same_Some, slice_get_cases, slice_get_within}
pub use Rattle.std.proofs.lemmas.Result.{IfOk-weaker}
pub use Rattle.std.specs.Fmt.{decimal}
pub use Rattle.std.specs.Global.{Vec}
pub use Rattle.std.specs.List.{AllByRecursion, Contains, HoldsAt, cons_option, flat_map, insert, list_any, range_with_len, remove, slice_get}
pub use Rattle.std.specs.List.Sorted.{IsBinarySearchResult, IsSearchInRange}
pub use Rattle.std.specs.Option.{MatchOption}
pub use Rattle.std.specs.Ordering.{nat_cmp, ordering_index}
pub use Rattle.std.specs.Prelude.{All, AllPairs, IfNone, IfOk, IfSome, OnErr, filter, if◌then◌else◌, nat_eq, nat_lt, not, ◌&&◌, ◌==◌, ◌||◌}
pub use Rattle.std.specs.Result.{result_err}
pub use Rattle.std.specs.declared.alloc.AllocError.{AllocError}
pub use Rattle.histories.specs.Frontier.{IsIdle, IsMade, MovesBefore, states_in}
pub use Rattle.histories.specs.Histories.{AreAll, AreEnough, IsExplained, Leads, calls_alone}
pub use Rattle.histories.specs.declared.machine.Left.{Left}
pub use Rattle.iox2_config.specs.declared.hash.input.PatternKind.{PatternKind}
pub use Rattle.iox2_container.specs.Steps.{Adds, Changes, Removes, AddStep, CalledInTurn, HasEntry, HasRoom, InsertsOne, IsFull, IsUnknownHandle, RecoverStep, RemoveStep, TakesEntry, details_where, candidates, is_of, lock_after, marks_of, release_state, staying}
pub use Rattle.iox2_container.specs.State.{ContainerState, container, Handle, Entry, IsRegistry, RegistryState, handle_of}
pub use Rattle.iox2_container.specs.declared.container.registry.ContainerAddFailure.{ContainerAddFailure}
pub use Rattle.iox2_container.specs.declared.container.registry.ContainerAddFailure.TheVariants.{IsLocked, OutOfSpace}
pub use Rattle.iox2_container.specs.declared.container.registry.ContainerRemoveError.{ContainerRemoveError}
pub use Rattle.iox2_container.specs.declared.container.registry.ContainerRemoveError.TheVariants.{ContainerHandleNotOwnedByContainer}
pub use Rattle.iox2_container.specs.declared.container.registry.ReleaseMode.{ReleaseMode}
pub use Rattle.iox2_container.specs.declared.container.registry.ReleaseMode.TheVariants.{Default, LockIfLastIndex}
pub use Rattle.iox2_container.specs.declared.container.registry.ReleaseState.{ReleaseState}
pub use Rattle.iox2_container.specs.declared.container.registry.ReleaseState.TheVariants.{Unlocked}
pub use Rattle.iox2_container.specs.declared.container.handle.Role.{Role}
pub use Rattle.iox2_dynamic.specs.Steps.{state_of, AddsPort, DeadStep, IsOpenFor, NodesAfter, RemovesPort, is_last_of_ports}
pub use Rattle.iox2_dynamic.specs.Details.{node_of, port_of, role_of}
pub use Rattle.iox2_dynamic.specs.Ports.{IsEither, IsNeither, OnSide, Ports, RecoversBoth, RemovesFrom, has_ports_of, Side, of_side, other_side, side_of, CallsCleanup, RecoversNodes, RecoversPorts, removes}
pub use Rattle.iox2_dynamic.specs.Ports.Side.{First, Second}
pub use Rattle.iox2_dynamic.specs.Service.{HasRole, IsPortRegistry, IsService, Registered, Service, entries_of_node, first_role, role_at, second_role}
pub use Rattle.iox2_dynamic.specs.declared.dynamic_config.answers.DeregisterNodeState.{DeregisterNodeState}
pub use Rattle.iox2_dynamic.specs.declared.dynamic_config.answers.PortCleanupAction.{PortCleanupAction}
pub use Rattle.iox2_dynamic.specs.declared.dynamic_config.answers.PortCleanupAction.TheVariants.{RemovePort, SkipPort}
pub use Rattle.iox2_dynamic.specs.declared.dynamic_config.port_details.PortDetails.{PortDetails}
pub use Rattle.iox2_ids.specs.Packing.{hexadecimal}
pub use Rattle.iox2_ids.specs.PortId.{port_value}
pub use Rattle.iox2_ids.specs.declared.identifiers.port_id.UniquePortId.{UniquePortId}
pub use Rattle.iox2_static.specs.Description.{Description}
pub use Rattle.line_streams.specs.Numerals.{cons_same}
pub use Rattle.line_streams.specs.OneWay.{listed_one, number_one}
pub use Rattle.line_streams.specs.Spelling.{EndsNumber, OthersFit, Reads, Spelling, after, line_end, number, others_text, sequence}
pub use Rattle.line_streams.specs.declared.phrase.LineEnd.TheVariants.{Bytes}
pub use Rattle.service_conformance.specs.Alone.{Answered, Gives, IsBare, IsBounded, IsBoundedRegistry, added_role, handle_named, judged_of}
pub use Rattle.service_conformance.specs.Calls.{AreRepliesOf, Call, CallStep, ChangesNothing, GivesBelow, HasNumber, HasWords, IsIdleCall, LacksNumber, LeadsOn, ServesCall, answered, at_first, call_of, handle_for, AreGivenBelow, CanAsk, is_query, seen_as}
pub use Rattle.service_conformance.specs.Dead.{after_dead, goes, is_kept, nodes_if, stays, without_node, without_ports}
pub use Rattle.service_conformance.specs.Entries.{CanList, HasAt, IsAt, IsFreePosition, MayGive, Refuses, StandsAt, slot_entry, with_left}
pub use Rattle.service_conformance.specs.Given.{Becomes, GivesNode, GivesNodes, GivesPort, GivesPorts, IsBefore, IsUnused, MayStand, StandsLast, UsedSo, with_last, with_nodes, with_ports, with_used}
pub use Rattle.service_conformance.specs.IdWords.{apart, has_no_space, printed_one, same_id}
pub use Rattle.service_conformance.specs.Judged.{AreJudgedReplies, CallLeaves, IsIdleJudged, IsWithin, Judged, JudgedStep, WindowStep}
pub use Rattle.service_conformance.specs.Judged.Judged.{call, stops}
pub use Rattle.service_conformance.specs.Laws.{IsThere, WeakListingsSeeEnough}
pub use Rattle.service_conformance.specs.Looks.{IsWatched, Look, Watched, ids_in, is_among, lacking, look_after, look_of, looks_after, port_ids, unwatched, watched, without}
pub use Rattle.service_conformance.specs.Movers.{ChangesAt, IsChange, CanPrecede, MovesBeforeCall}
pub use Rattle.service_conformance.specs.Possible.{Allows, ArePossible, MayGiveIn, possible_add, reply_in, reply_named, reply_of_owners}
pub use Rattle.service_conformance.specs.Quiet.{CanServe, LeadsTo, Reports, at_rest, is_removal, ports_at_rest, quiet, quiet_state, untouched}
pub use Rattle.service_conformance.specs.Seen.{EndsWord, IsToLine, changes_nothing, count_words, list_words, printed_id, seen_text, word_text}
pub use Rattle.service_conformance.specs.ServiceFields.{service_of}
pub use Rattle.service_conformance.specs.Sides.{part_at, ports_at, with_ports_at}
pub use Rattle.service_conformance.specs.WatchedFields.{watched_of}
pub use Rattle.service_conformance.specs.Words.{AllowsWords, ArePossibleWords, AreSlotsRising, IsNextHandle, IsNextIn, ReadsReply, ReadsReplyHandle, handle_words}
pub use Rattle.service_conformance.specs.declared.conformance.line_reply.LineReply.{LineReply}
pub use Rattle.service_conformance.specs.declared.conformance.mover.Change.{Change}
pub use Rattle.service_conformance.specs.declared.conformance.possible.NextHandle.{NextHandle}
pub use Rattle.service_conformance.specs.declared.conformance.possible.Part.{Part}
pub use Rattle.service_conformance.specs.declared.conformance.possible.Possible.{Possible}
pub use Rattle.service_conformance.specs.declared.conformance.possible.PossibleReplies.{PossibleReplies}
pub use Rattle.service_conformance.specs.declared.conformance.seen_reply.ReplyWord.{ReplyWord}
pub use Rattle.service_conformance.specs.declared.conformance.seen_reply.SeenReply.{SeenReply}
pub use Rattle.service_descriptions.specs.Steps.{CleanedUp, Cleans, ServesCount, ServesDead, ServesList, action_for, reply_of_owners as reply_of_state, Run, Serves, ServesAdd, ServesDeregister, ServesRegister, ServesRelease, ServiceStep, State, handle_in, named}
pub use Rattle.service_descriptions.specs.Fields.{KeepsHandles}
pub use Rattle.service_descriptions.specs.Lines.{IsId}
pub use Rattle.service_descriptions.specs.Replies.{IsSameReply, id_word, port_word, text_of}
pub use Rattle.service_descriptions.specs.declared.replay.machine.command.Cleanup.{Cleanup}
pub use Rattle.service_descriptions.specs.declared.replay.machine.command.Cleanup.TheVariants.{ByPort}
pub use Rattle.service_descriptions.specs.declared.replay.machine.command.Command.{Command}
pub use Rattle.service_descriptions.specs.declared.replay.machine.reply.Reply.{Reply}
