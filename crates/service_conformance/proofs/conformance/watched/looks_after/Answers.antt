use Rattle.service_conformance.proofs.Looking.{looks_next}
use Rattle.service_conformance.proofs.conformance.watched.looks_after.Goals as goal

pub loop-look-preserved : goal.loop-look-preserved
loop-look-preserved c =
    looks_next c.args.service.now c.args.looks.now c.loop-look.look-index c.look-item.result
    c.loop-look.left.items c.add_after.new.left.items c.loop-look-test.true c.look-item.is
    c.loop-look.invariant c.in_ok-add_after.ensures.ok
