use Rattle.service_conformance.proofs.Names.{◌≡◌, List, subst, sym, Look, looks_after}
use Rattle.service_conformance.proofs.Looking.{looks_twice}
use Rattle.service_conformance.proofs.conformance.watched.WatchedService.watched.Goals as goal

pub invariant_of-result : goal.invariant_of-result
invariant_of-result c =
    rw c.in_ok-service.ensures.ok
    (subst (λ (l : List Look). looks_after c.args.service l ≡ l) (sym c.in_ok-looks.ensures)
    (looks_twice c.args.service c.args.looks.now))
