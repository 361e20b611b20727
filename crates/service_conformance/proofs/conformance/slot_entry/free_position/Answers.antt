use Rattle.service_conformance.proofs.Names.{answers_always, rules}
use Rattle.service_conformance.proofs.Registries.{searched}
use Rattle.service_conformance.proofs.conformance.slot_entry.free_position.Goals as goal

pub returns : goal.returns
returns g c =
    let found = c.binary_search_by_key-found in
    searched c.args.entries.now c.requires c.args.slot found.result c.err.result
    c.err.ensures.value found.ensures.bound
    (found.ensures.position (λ e. e.slot) (answers_always _ _ _ (λ f a r h called. search rules)))
