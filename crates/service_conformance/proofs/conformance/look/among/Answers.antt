use Rattle.service_conformance.proofs.Names.{ap, filter, filter_same, rules, ◌∙◌, is_among}
use Rattle.service_conformance.proofs.conformance.look.among.Goals as goal

pub returns : goal.returns
returns c =
    filter_same _ _ _ (λ x b f' k. search rules) _ _ c.retain.ensures.filtered
    ∙ ap (filter (is_among c.args.others.now)) c.in_ok-left.ensures.items
