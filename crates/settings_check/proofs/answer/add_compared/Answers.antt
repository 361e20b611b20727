use Rattle.std.proofs.Common.{refl, subst}
use Rattle.std.specs.Prelude.{map}
use Rattle.std.proofs.lemmas.Result.{on_ok_weaker}
use Rattle.settings_check.specs.Answer.{AreToml}
use Rattle.settings_check.specs.Found.{valid_view}
use Rattle.settings_check.proofs.Comparing.{both_toml, first_two}
use Rattle.settings_check.proofs.Lists.{same_parts}
use Rattle.settings_check.proofs.answer.add_compared.Goals as goal

pub add_differences-requires : goal.add_differences-requires
add_differences-requires c =
    let (more, two) = first_two c.args.found.now.valid.items c.as_slice.result.now
    c.first-item.result c.second-item.result _ _ c.as_slice.ensures.value c.in-len2-up.len_at_least
    c.first-item.is c.second-item.is in
    both_toml c.first-item.result c.second-item.result more
    (subst (λ l. AreToml (map valid_view l)) two c.requires)

pub returns-in-len2-up : goal.returns-in-len2-up
returns-in-len2-up c =
    let (more, two) = first_two c.args.found.now.valid.items c.as_slice.result.now
    c.first-item.result c.second-item.result _ _ c.as_slice.ensures.value c.in-len2-up.len_at_least
    c.first-item.is c.second-item.is in
    on_ok_weaker c.add_differences.result
    (λ h. same_parts _ _ (rw (two, h) refl) refl refl) c.add_differences.ensures
