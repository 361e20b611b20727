use Rattle.service_conformance.proofs.Names.{◌≡◌, ◌<◌, ◌^◌, rules, sym, ◌∙◌, ap, subst, handle_words}
use Rattle.service_conformance.proofs.Words.{parts_same, slots_same}
use Rattle.service_conformance.proofs.conformance.says.is_handle.Goals as goal

pub returns-then-slot : goal.returns-then-slot
returns-then-slot c =
    let h = c.in-Some.handle in
    let slot : h.slot ≡ c.args.slot = sym c.slot.ensures ∙ c.if-slot.true in
    let s : c.slot.result < 2 ^ 64 = search rules in
    let t : c.ticket.result < 2 ^ 64 = search rules in
    rw c.in-Some.ensures.some (
      λ yes.
          let ticket : c.ticket.result ≡ c.args.ticket = search (rules, yes) in
          ap (λ k. handle_words k h.ticket) slot
          ∙ ap (handle_words c.args.slot) (sym c.ticket.ensures ∙ ticket),
      λ e.
          let parts =
          parts_same h.slot h.ticket c.args.slot c.args.ticket
          (subst (λ k. k < 2 ^ 64) c.slot.ensures s) (subst (λ k. k < 2 ^ 64) c.ticket.ensures t)
          (search rules) (search rules) e in
          let ticket = c.ticket.ensures ∙ parts.1 in
          search (rules, ticket),
    )

pub returns-else-slot : goal.returns-else-slot
returns-else-slot c =
    let h = c.in-Some.handle in
    let s : c.slot.result < 2 ^ 64 = search rules in
    rw c.in-Some.ensures.some (
      λ yes. absurd (c.if-slot.false (search (rules, yes))),
      λ e.
          let slot = c.slot.ensures
          ∙ slots_same h.slot h.ticket c.args.slot c.args.ticket
          (subst (λ k. k < 2 ^ 64) c.slot.ensures s) (search rules) e in
          search (rules, slot),
    )
