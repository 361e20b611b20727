use Rattle.service_conformance.specs.WatchedFields.{watched_of}
use Rattle.service_conformance.proofs.Looking.{start_kept}
use Rattle.service_conformance.proofs.conformance.watched.WatchedService.start.Goals as goal

pub invariant_of-self : goal.invariant_of-self
invariant_of-self c =
    start_kept (watched_of c.self.inside) c.in_ok-look.look c.add_after.result
    c.add_after.new.left.items c.self.invariant (rw c.deref-3.ensures at c.add_after.ensures.ok)
    c.add_after.ensures.err
