use Rattle.iox2sd.proofs.Names.{order_at, refl, rules, ◌∙◌, ◌≡◌}
use Rattle.std.proofs.lemmas.Fn.{answers_by}
use Rattle.iox2sd.proofs.Keeping.{searched}
use Rattle.iox2sd.proofs.service.kept.is_among_sorted.Goals as goal

pub returns : goal.returns
returns c =
    let facts = c.binary_search_by.ensures in
    let by_order =
    facts.position (λ p. order_at p c.args.role c.args.value)
    (answers_by _ _ (λ s. (s.0 ≡ c.args.role) × (s.1 ≡ c.args.value))
    (λ f a r g called i. search rules) _ (refl, refl)) in
    c.is_ok.ensures.value
    ∙ searched c.args.ports.now c.args.role c.args.value c.requires c.binary_search_by.result
    facts.bound by_order
