use Rattle.service_conformance.proofs.Names.{ap, filter, filter_same, not, rules, ℕ, ◌∙◌, is_among}
use Rattle.service_conformance.proofs.conformance.look.without.Goals as goal

pub returns : goal.returns
returns c =
    filter_same _ _ _ (λ x b f' k. search rules) _ _ c.retain.ensures.filtered
    ∙ ap (filter (λ (id : ℕ). not (is_among c.args.others.now id))) c.in_ok-left.ensures.items
