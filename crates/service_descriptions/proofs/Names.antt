-- The names that the proofs cite.
pub use Rattle.iox2_dynamic.proofs.Names.{AddStep, ContainerAddFailure, Default, Entry, LockIfLastIndex, RegistryState, ReleaseState, Visit, container_as, entry_as, is_of}
pub use Rattle.iox2_dynamic.specs.Ports.Side.{First, Second}
pub use Rattle.iox2_dynamic.specs.Steps.{NodesAfter, AddsPort, RemovesPort}
pub use Rattle.iox2_dynamic.specs.Ports.{Side, of_side, other_side, side_of, has_ports_of}
pub use Rattle.iox2_dynamic.specs.Service.{role_at}
pub use Rattle.iox2_dynamic.proofs.Recoveries.{DeadStep-called}
pub use Rattle.line_streams.proofs.Phrases.{Nowhere, no_first, no_second, reads_after, reads_then}
pub use Rattle.line_streams.specs.OneWay.{after_one, line_end_one, number_one, sequence_one}
pub use Rattle.line_streams.specs.Spelling.{Lacks, OthersFit, others_text}
pub use Rattle.line_streams.specs.declared.phrase.LineEnd.TheVariants.{Bytes, Newline}
pub use Rattle.service_descriptions.specs.Steps.{CleanedUp, Cleans, ServesDead, reply_of_owners, ServesCount, ServesList, ServesNodes, Did, IsState, Run, Serves, ServesAdd, ServesDeregister, ServesRegister, ServesRelease, ServiceStep, State, handle_in, Differ, named}
pub use Rattle.service_descriptions.specs.Descriptions.{ServesCompatible, ServesLayout, ServesMessages, ServesPlaces, ServesVerify}
pub use Rattle.service_descriptions.specs.Fields.{IsSound, described, session_of, IsGiven, KeepsHandles, handle_at, handles_in, tickets_of}
pub use Rattle.service_descriptions.specs.Laws.{IsBadAtOneLine, IsGoodOrBad, LinesSpellOneCommand, LinesSpellOneService, RunsJoin}
pub use Rattle.service_descriptions.specs.LineAnswers.{LineStep, PutsText, PutsWord, StandsFor, WritesLine, Written, handle_given, kind_text, ports_text}
pub use Rattle.service_descriptions.specs.Lines.{HasLine, IsId, IsLine, SameCommand, command_of, id_text, line_of, line_text, skip_words, value_of}
pub use Rattle.service_descriptions.specs.Phrases.{id_one, id_phrase, node_id_one, node_id_phrase, pattern_one, pattern_phrase, port_one, role_one, spelled_of, three_fit, three_phrase}
pub use Rattle.service_descriptions.specs.Prelude.{AllByRecursion, ByPort, Command, ContainerState, DeadStep, DeregisterNodeState, DeregisterStep, Description, EndsNumber, Handle, IsService, LacksRole, OneWay, PatternKind, PortDetails, Reads, Reply, Role, Service, ServiceLine, Spelling, Verifies, after, decimal, flat_map, join_with_byte, line_end, list_any, listed, node_of, number, owner_of, port_of, port_value, sequence}
pub use Rattle.service_descriptions.specs.Replies.{IsSameReply, id_word, port_word, reply_line, reply_of}
pub use Rattle.service_descriptions.specs.Script.{HasService, IsServiceLine, RanLines, command_line, service_front, service_line}
pub use Rattle.service_descriptions.specs.declared.replay.machine.command.Cleanup.{Cleanup}
pub use Rattle.std.proofs.lemmas.Bool.Decides.{Decides-and, Decides-like, nat_tests}
pub use Rattle.std.proofs.lemmas.Grind.{flat_map-append}
pub use Rattle.std.proofs.lemmas.List.{append-nil, map-append, map-id, take-append-drop, take_more}
pub use Rattle.std.proofs.lemmas.List.Elements.{All-from_get_or, All-push, All-weaker}
pub use Rattle.std.specs.Global.{Vec}
pub use Rattle.std.specs.List.{IsAllAdjacentAnswer}
