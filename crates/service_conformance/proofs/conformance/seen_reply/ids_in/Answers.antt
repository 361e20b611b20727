use Rattle.service_conformance.proofs.Names.{map-id, rules, ℕ}
use Rattle.service_conformance.proofs.Seen.{ids_found, more_than_ids, no_ids}
use Rattle.service_conformance.proofs.conformance.seen_reply.ids_in.Goals as goal

pub returns-in_default-2-clause-none : goal.returns-in_default-2-clause-none
returns-in_default-2-clause-none c =
    let none = rw c.in_default-2.is at c.in_ok-ids.ensures in
    no_ids c.args.words.now c.in-Some.rest.now c.in-Some.ensures.some
    (λ a fits e. none a fits (search (rules, e)))

pub returns-then-not-is_empty-clause-none : goal.returns-then-not-is_empty-clause-none
returns-then-not-is_empty-clause-none c =
    let found = rw c.in-Some-2.is at c.in_ok-ids.ensures in
    more_than_ids c.args.words.now c.in-Some.rest.now c.in-Some.ensures.some _
    c.in-Some-2.ids.items c.in-Some-2.rest.now (map-id {A = ℕ} c.in-Some-2.ids.items)
    (found.0, search (rules, found.1)) (λ e. search (rules, e))

pub returns-clause-some : goal.returns-clause-some
returns-clause-some c =
    let found = rw c.in-Some-2.is at c.in_ok-ids.ensures in
    ids_found c.args.words.now c.in-Some.rest.now c.in-Some.ensures.some _
    c.in-Some-2.ids.items c.in-Some-2.rest.now (map-id {A = ℕ} c.in-Some-2.ids.items)
    (found.0, search (rules, found.1)) (search rules)
