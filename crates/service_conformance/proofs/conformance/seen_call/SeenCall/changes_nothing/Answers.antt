use Rattle.service_conformance.proofs.Names.{Some, refl, sym, true, ◌∙◌, ◌≡◌, is_query, seen_text}
use Rattle.service_conformance.proofs.Calls.{changes_none, query_changes_none}
use Rattle.service_conformance.proofs.conformance.seen_call.SeenCall.changes_nothing.Goals as goal

pub returns : goal.returns
returns c t =
    let has : c.args.self.now.words ≡ Some (seen_text c.in-Some.seen) =
    rw (← c.self.view_is, c.in-Some.is) refl in
    changes_none c.args.self.now c.in-Some.seen has (sym c.changes_nothing.ensures ∙ t)

pub returns-in_default : goal.returns-in_default
returns-in_default c t =
    let query : is_query c.args.self.now.command ≡ true =
    rw (← c.self.view_is) (sym c.is_query.ensures ∙ t) in
    query_changes_none c.args.self.now query
