use Rattle.history_logs.proofs.Words.{List, None, Service, Some, ap, arith, given_by, service_of, slice_get, slice_get-get_or, subst, sym, ℕ, ◌∙◌, ◌≡◌}
use Rattle.history_logs.proofs.Answering.{given_past}
use Rattle.history_logs.proofs.logs.service.LogService.given_by.Goals as goal

pub returns-else-call-len : goal.returns-else-call-len
returns-else-call-len c =
    subst (λ (v : Service). None ≡ given_by v c.args.number) c.self.view_is
    (given_past (service_of c.self.inside) _ _
    (ap (λ (l : List ℕ). slice_get l c.args.number) (sym c.deref.ensures.value)
    ∙ (slice_get-get_or c.deref.result.now c.args.number 0 c.in-Some.ensures.lookup.3.0
    ∙ ap Some (sym (c.in-Some.ensures.lookup.3.1 0))))
    (omega arith))
