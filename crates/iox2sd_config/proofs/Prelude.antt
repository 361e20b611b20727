-- The words and lemmas that proofs of this crate are made of.
pub use Rattle.iox2_config_file.specs.Read.{fault_view}
pub use Rattle.iox2_config_file.specs.Unknown.{unknown_view}
pub use Rattle.iox2sd_common.specs.Answers.{count_answer}
pub use Rattle.iox2sd_config.specs.Faults.{c_fault}
pub use Rattle.iox2sd_config.specs.Files.{ListsFaults, PutsListed, Settles, fault_sort_key, refused_answer}
pub use Rattle.iox2sd_config.specs.Unknown.{PutsUnknown, c_unknown, named_sort_key, named_view, paths_of, plain_of, unknown_answer}
pub use Rattle.std.proofs.Common.{Err, List, None, Option, Some, [], ap, arith, drop, inl, inr, length, refl, rules, subst, sym, ℕ, ◌++◌, ◌<◌, ◌∙◌, ◌∷◌, ◌≡◌}
pub use Rattle.std.proofs.lemmas.List.{length-map}
pub use Rattle.std.proofs.lemmas.List.Sorted.{answers_always, length_permutation}
pub use Rattle.std.specs.Prelude.{map, slice_get, string_bytes}
