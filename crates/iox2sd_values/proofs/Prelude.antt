-- The words and lemmas that proofs of this crate are made of.
pub use Rattle.iox2_texts.proofs.VerifyLemmas.{Contains-Any, Misses-map, Misses-same, all_of_take, key_fault, least_missing, refuted}
pub use Rattle.iox2_texts.specs.Attribute.{ContainsKey, IsListing, has_key, values_of}
pub use Rattle.iox2_texts.specs.Pair.{Pair, pair_cmp}
pub use Rattle.iox2sd_common.specs.Answers.{place_answer}
pub use Rattle.iox2sd_values.specs.Attributes.{HasText, IsLegal, Judges, ReportsOf, pair_of, text_of}
pub use Rattle.iox2sd_values.specs.Laws.{ComparesAlike, HasOneAnswer, MakesOneSet}
pub use Rattle.iox2sd_values.specs.declared.attributes.Attribute.{Attribute}
pub use Rattle.std.proofs.Common.{All, Bool, Err, List, None, Ok, Option, Some, [], ap, arith, codes, cond, drop, false, get_or, inl, length, map, refl, slice_get, subst, sym, take, true, true≢false, ℕ, ◌++◌, ◌+◌, ◌<◌, ◌∙◌, ◌∷◌, ◌≡◌, ◌≤◌}
pub use Rattle.std.proofs.lemmas.List.{get_or-map, get_or_default, length-map, take_all}
pub use Rattle.std.proofs.lemmas.List.Elements.{All-more}
pub use Rattle.std.proofs.lemmas.List.Sorted.{Contains-permutation, IsPermutation-map, IsPermutation-sym, IsPermutation-trans, length_permutation, sum_by-IsPermutation}
pub use Rattle.std.proofs.lemmas.Option.{get_or_from_slice_get, slice_get-get_or}
pub use Rattle.std.specs.List.{count_by, filter, list_all}
pub use Rattle.std.specs.Option.{ok_or, option_eq, option_map}
pub use Rattle.std.specs.Prelude.{Any, Contains, IsPermutation, IsSorted, IsTrue, nat_eq, ◌&&◌, ◌↔◌}
