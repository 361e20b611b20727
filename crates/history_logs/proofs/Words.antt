-- The words of specs and of std that proofs use.
pub use Rattle.histories.proofs.Lists.{times_one}
pub use Rattle.histories.proofs.Events.{begins-append, stands_begins, stands_take}
pub use Rattle.histories.proofs.Verdicts.{begun_none, counts_begin, counts_crash, counts_end, one_more}
pub use Rattle.histories.specs.Frontier.{HasSlot}
pub use Rattle.histories.specs.Histories.{HasEnded, IsExplained, IsHistory, IsOpen, MayFollow, StandsAt, begins, begun}
pub use Rattle.histories.specs.declared.front.Event.{Event}
pub use Rattle.histories.specs.declared.front.Event.TheVariants.{Begin, Crash, End}
pub use Rattle.histories.specs.declared.front.Front.{Front}
pub use Rattle.history_logs.specs.EventLines.{Answers, HasCommand, HasEventLines, IsCommandOf, IsLineAt, IsSaidIn}
pub use Rattle.history_logs.specs.Fields.{AreNumbers, log_of, numbers_in, waits_in}
pub use Rattle.history_logs.specs.Good.{HasNoNext, IsKept, IsOrderly, IsReadTo, Starts, Takes, TakesLine, TakesNext, is_service}
pub use Rattle.history_logs.specs.Judging.{AreJudged, AreLines, AreLinesTo, IsFirstFound, IsFoundOf, IsNotBefore, IsRefusedIn, comes_before, earlier, end_verdict}
pub use Rattle.history_logs.specs.Logs.{AreNeededLines, BeginsAt, IsReported, IsRightAbove, IsSeenRightly, NoneRefused, NoneRefusedAbove, StepOf, StopsIn, calls_in, line_begun, news, services_in}
pub use Rattle.history_logs.specs.Orders.{HasOrders}
pub use Rattle.history_logs.specs.Parts.{callers_of, service_of}
pub use Rattle.history_logs.specs.Progress.{AddsCounts}
pub use Rattle.history_logs.specs.Reading.{Crashes, Does, Gives, GoesOn, IsNamed, IsSane, Log, MayBegin, NoneCalls, Says, Sets, StartsAs}
pub use Rattle.history_logs.specs.Reports.{config_text, line_of, number_word, order_text, report_text}
pub use Rattle.history_logs.specs.Seen.{Begins, HasHandles, Service, added_by, called, calls_answered, calls_shown, changed, forgetting, forgotten, given_by, given_in, start_of, started, starting, stopping, unseen, with_alone, with_begin, with_crash, with_end, with_look, with_over, with_part}
pub use Rattle.history_logs.specs.Settling.{AreOver, AreRightShort, AreSameFronts, AreShort, GoesShort, HasFront, HasShort, HaveShort, IsShort, MayFollowAt, StayAll, Stays, front_at}
pub use Rattle.history_logs.specs.declared.logs.callers.CallerState.{CallerState}
pub use Rattle.history_logs.specs.declared.logs.verdict.Expected.{Expected}
pub use Rattle.history_logs.specs.declared.logs.verdict.Refusal.{Refusal}
pub use Rattle.history_logs.specs.declared.logs.verdict.Verdict.{Verdict}
pub use Rattle.history_logs.specs.declared.logs.verdict.Verdict.TheVariants.{Conforms, ManyConfigs, ManyOpen, Refused}
pub use Rattle.histories.specs.Windows.{IsBusyFrom, IsFrontAfter, IsStop, IsWindowOf, events_of, is_kept}
pub use Rattle.histories.specs.declared.window.Stop.{Stop}
pub use Rattle.histories.specs.declared.window.Window.{Window}
pub use Rattle.iox2_container.proofs.Lists.{get_set_other}
pub use Rattle.iox2_container.specs.State.{Handle}
pub use Rattle.iox2_container.specs.Steps.{listed}
pub use Rattle.line_streams.proofs.Indices.{before_one}
pub use Rattle.line_streams.specs.Spelling.{HasNo}
pub use Rattle.log_lines.proofs.OneReading.{one_way}
pub use Rattle.log_lines.specs.Commands.{Begun, NamedCommand, named}
pub use Rattle.log_lines.specs.Commands.Begun.{command, weak}
pub use Rattle.log_lines.specs.Commands.NamedCommand.{numbered}
pub use Rattle.log_lines.specs.Laws.{IsAlike}
pub use Rattle.log_lines.specs.Lines.{IsLine, Line, is_note, line_seen, line_text}
pub use Rattle.log_lines.specs.Lines.Line.{begin, call, crash, end, given, reply, service}
pub use Rattle.log_lines.specs.States.{State, state_seen}
pub use Rattle.service_conformance.specs.Judged.{Judged, WindowStep, judged_answered, role_added, shown, stopped}
pub use Rattle.service_conformance.specs.Judged.Judged.{starts, stops}
pub use Rattle.service_conformance.specs.Looks.{Watched}
pub use Rattle.service_conformance.specs.declared.conformance.calls.Calls.{Calls}
pub use Rattle.service_conformance.specs.declared.conformance.possible.Part.{Part}
pub use Rattle.service_conformance.specs.declared.conformance.seen_reply.SeenReply.{SeenReply}
pub use Rattle.service_descriptions.specs.Replies.{id_word}
pub use Rattle.service_descriptions.specs.declared.replay.lines.line.ServiceLine.{ServiceLine}
pub use Rattle.std.proofs.Common.{All, AllPairs, Bool, Contains, Err, IfNone, IfOk, IfSome, IsTrue, List, None, Ok, Option, Result, Some, [], add-one, ap, append-nil, append_assoc, arith, codes, cond, decimal, drop, eqb, false, flat_map, fold, get_or, if◌then◌else◌, inl, inr, length, length-append, min, option_to_list, refl, replicate, rules, slice_get, subst, suc, sum_by, sym, take, take_all, true, zero, ℕ, ◌++◌, ◌+◌, ◌-◌, ◌<◌, ◌==◌, ◌||◌, ◌↔◌, ◌∙◌, ◌∷◌, ◌≡◌, ◌≢◌, ◌≤◌, ◌⊎◌}
pub use Rattle.std.proofs.Math.Seq.{take-append_seam}
pub use Rattle.std.proofs.lemmas.Bool.{cases_Bool, cases_eq, cases_lt, cases_order}
pub use Rattle.std.proofs.lemmas.Grind.{flat_map-append}
pub use Rattle.std.proofs.lemmas.List.{get_or_default, get_or_past, get_or_push, length-replicate, length-set, length-take-le, length_push, nil_from_length, take-append-drop, take-take, take_more}
pub use Rattle.std.proofs.lemmas.List.Elements.{All-cons, All-head, All-nil, All-push, All-set, All-tail, All-weaker, Contains-append_left, Contains-push}
pub use Rattle.std.proofs.lemmas.List.Quantifiers.{all_pairs_push}
pub use Rattle.std.proofs.lemmas.List.Sums.{sum-map}
pub use Rattle.std.proofs.lemmas.Map.Keys.{IsDistinct-from_sorted}
pub use Rattle.std.proofs.lemmas.Option.{get_or_from_slice_get, same_Some, slice_get-get_or, slice_get_read, slice_get_within}
pub use Rattle.std.proofs.lemmas.Result.{IfOk-weaker}
pub use Rattle.std.proofs.lemmas.Slice.Eq.{bytes_eq-Decides}
pub use Rattle.std.specs.BTreeMap.{BTreeMap, IsOrdered, UpdatesBy, keys}
pub use Rattle.std.specs.Io.KnownBytes.{Appends}
pub use Rattle.std.specs.List.{AllZip, slice_set}
pub use Rattle.std.specs.Option.{option_and_then, option_map}
pub use Rattle.std.specs.Ordering.{is_eq, nat_cmp}
