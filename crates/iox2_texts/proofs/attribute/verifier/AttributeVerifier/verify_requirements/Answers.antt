use Rattle.std.proofs.Common.{◌≡◌, List, Some, subst, ◌∙◌, ap}
use Rattle.std.specs.Prelude.{All, Any, Contains}
use Rattle.std.proofs.lemmas.List.Elements.{All-weaker}
use Rattle.iox2_texts.specs.Attribute.{ContainsKey}
use Rattle.iox2_texts.specs.Pair.{Pair}
use Rattle.iox2_texts.proofs.VerifyLemmas.{Contains-Any, Misses-same, least_missing, pair_fault, key_fault}
use Rattle.iox2_texts.proofs.attribute.verifier.AttributeVerifier.verify_requirements.Goals as goal

-- each required pair is in the set
held : (required shown pairs : List Pair) → shown ≡ required
    → All (λ r. Any (λ p. p ≡ r) pairs) shown → All (Contains pairs) required
held required shown pairs same all =
    subst (All (Contains pairs)) same (All-weaker _ _ (λ r. (Contains-Any pairs r).0) shown all)

pub returns-in-Some : goal.returns-in-Some
returns-in-Some c =
    let pairs = c.as_slice-pairs.result.now in
    let required = c.as_slice-required.result.now in
    let misses =
    Misses-same _ (Contains pairs) required (Some c.in-Some.i) (Contains-Any pairs)
    c.in-Some.ensures.misses in
    let least =
    least_missing required pairs c.in-Some.i _ c.as_slice-required.ensures.legal.0
    c.index-required-i.is misses in
    pair_fault _ required _ _ _ _ (cc) (rw c.as_slice-pairs.ensures.value at least) (cc) (cc)

pub returns-in-Some-first_missing : goal.returns-in-Some-first_missing
returns-in-Some-first_missing c =
    let view = c.self.view_is in
    rw (← c.as_slice-pairs.ensures.value) (
      held _ c.as_slice-required.result.now _
          (c.as_slice-required.ensures.value ∙ c.required_attributes.ensures)
          c.in_default.ensures.misses,
      key_fault _ c.as_slice-keys.result.now _ c.in-Some-first_missing.i c.index-keys-i.result _
          (cc) c.index-keys-i.is c.copied-in-Some-first_missing.ensures
          c.in-Some-first_missing.ensures.misses,
    )

pub returns-in-None : goal.returns-in-None
returns-in-None c =
    rw (← c.as_slice-pairs.ensures.value) (
      held _ c.as_slice-required.result.now _
          (c.as_slice-required.ensures.value ∙ c.required_attributes.ensures)
          c.in_default.ensures.misses,
      let view = c.self.view_is in
          subst (All (ContainsKey c.as_slice-pairs.result.now))
          (c.as_slice-keys.ensures.value ∙ ap (λ v. v.keys) view) c.in-None.ensures.misses,
    )
