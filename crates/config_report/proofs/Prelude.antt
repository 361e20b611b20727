-- The words and lemmas that proofs of this crate are made of.
pub use Rattle.config_report.specs.Contradictions.{Contradiction, Side, beside_text, candidate_view, contradiction_note, contradiction_view, contradictions_in, is_later, long_name, positioned_note, same_suffix, side_note, side_position, suffix_contradictions, suffix_view}
pub use Rattle.config_report.specs.Findings.{AreInLine, Checks, IsNoFile, error_behind, finding_sort_key, is_in_line, key_in_line, lines_of, topics_in, topics_of}
pub use Rattle.config_report.specs.Notes.{Note, Topic, fault, fault_topic, finding_view, has_no_control, in_line, meant_text, note, note_in, topic_note, topic_position, unknown, unknown_topic}
pub use Rattle.config_report.specs.Printable.{printable_char}
pub use Rattle.config_report.specs.Text.{IsReportOver, ValuePair, all_limits, directory_text, file_line, files_text, is_same, kind_view, paired, setting_line, table_lines, value_pairs}
pub use Rattle.iox2_config_file.specs.Read.{fault_view, reason_text, row_view}
pub use Rattle.iox2_config_file.specs.Settings.{Setting, held_at, prefix_of}
pub use Rattle.std.proofs.Common.{Bool, IsUtf8, List, None, OnOk, Option, Some, [], add-one, ap, append-nil, append_assoc, arith, chars, drop, drop-cons, drop_of_length-le, false, get_or, if◌then◌else◌, inl, inr, length, length-append, nat_lt, option_map, refl, rules, slice_get, string_bytes, subst, suc, sum, sym, true, zero, ℕ, ◌%◌, ◌&&◌, ◌*◌, ◌++◌, ◌+◌, ◌/◌, ◌<◌, ◌==◌, ◌^◌, ◌∙◌, ◌∷◌, ◌≡◌, ◌≤◌}
pub use Rattle.std.proofs.lemmas.Bool.Decides.{nat_tests, same_from_decides}
pub use Rattle.std.proofs.lemmas.List.{get_or-map, length-map, map-append}
pub use Rattle.std.proofs.lemmas.List.Sorted.{All-permutation, answers_always}
pub use Rattle.std.proofs.lemmas.Option.{none-some, slice_get-get_or, slice_get_past}
pub use Rattle.std.proofs.lemmas.Result.{on_ok_weaker}
pub use Rattle.std.proofs.lemmas.Str.{IsUtf8-past_char, chars-nil, chars_past_char}
pub use Rattle.std.specs.Prelude.{Err, codes, flat_map, map, nat_le}
