use Rattle.std.proofs.Common.{rules, tests, ◌<◌, ℕ, Bool, true, false, List, length, MatchBool, HoldsAt, arith}
use Rattle.std.specs.List.{AllWithin}
use Rattle.std.proofs.lemmas.Iterator.{YieldsList-from_slice, cases_from_any}
use Rattle.histories.proofs.Words.{Config, IsKnown, IsSame, get_or, get_or_default}
use Rattle.histories.proofs.gather.is_among.Goals as goal

known_or_none : {S : Type 0} (configs : List (Config S)) (config : Config S) (r : Bool)
    → MatchBool r
    ((k : ℕ) × (k < length configs) × HoldsAt (λ known. IsSame known config) configs k)
    (AllWithin (λ known. ¬ (IsSame known config)) configs 0 (length configs))
    → IsKnown configs config r
known_or_none configs config true (k, within, same) = (
  get_or configs k config,
  (k, within, get_or_default configs k (get_or configs k config) config within),
  same config,
)
known_or_none configs config false none = λ k d within. none k d (omega arith) within

pub returns : goal.returns
returns g c =
    let config = c.args.config.now in
    known_or_none c.args.configs.now config c.any.result
    (cases_from_any _ _ c.any.result (λ known. IsSame known config)
    (λ known. ¬ (IsSame known config)) c.any.ensures.ran
    (YieldsList-from_slice c.args.configs.now cc) (λ x q k. search (rules, tests))
    (λ x q k. search (rules, tests)))
