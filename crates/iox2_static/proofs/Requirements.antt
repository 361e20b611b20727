-- No requirement is unmet exactly where all are met.
use Rattle.std.proofs.Common.{rules, ◌≡◌, List, [], ◌∷◌, Bool, true, false, not, cond, refl, sym, ap, ◌∙◌}
use Rattle.std.specs.Prelude.{◌↔◌, Option, Some, IsTrue, IsNone, is_some}
use Rattle.std.specs.Option.{option_map}
use Rattle.iox2_static.specs.Requirements.{first_unmet, AreMet}
use Rattle.iox2_static.specs.declared.static_config.setting.Requirement.{Requirement}
use Rattle.iox2_static.specs.declared.static_config.setting.Setting.{Setting}

abbrev setting_of : Requirement → Setting
setting_of one = one.setting

step : (is_met : Bool) (one : Requirement) (rest : Option Requirement) (Rest : Type 0)
    → (IsNone (option_map setting_of rest) ↔ Rest)
    → IsNone (option_map setting_of (cond (not is_met) (Some one) rest)) ↔ (IsTrue is_met × Rest)
step true one rest Rest same = (λ e. (refl, same.0 e), λ all. same.1 all.1)
step false one rest Rest same = search rules

none_unmet : (requirements : List Requirement)
    → IsNone (first_unmet requirements) ↔ AreMet requirements
unfolding first_unmet AreMet
none_unmet [] = (λ _. tt, λ _. refl)
none_unmet (one ∷ others) = step one.is_met one _ _ (none_unmet others)

flipped : (b : Bool) → not b ≡ false → IsTrue b
flipped true e = refl
flipped false e = search rules

-- the answer is whether nothing was found
module _ (requirements : List Requirement) (found : Option Setting) (answer : Bool)
    (found_is : found ≡ first_unmet requirements) (answer_is : is_some found ≡ not answer) where
  reported : is_some (first_unmet requirements) ≡ not answer
  reported = ap is_some (sym found_is) ∙ answer_is

  pub met_where_none : IsTrue answer ↔ AreMet requirements
  met_where_none = (
    λ none. (none_unmet requirements).0 (reported ∙ ap not none),
    λ all. flipped answer (sym reported ∙ (none_unmet requirements).1 all),
  )
