use Rattle.service_conformance.proofs.Moving.{numbers_move}
use Rattle.service_conformance.proofs.conformance.calls.CallsMachine.moves_before.Goals as goal

pub returns : goal.returns
returns c t =
    numbers_move c.args.self.now.first c.args.self.now.calls.now c.args.call c.args.other
    c.in-Some.change c.in-Some-change_at.other c.in-Some.ensures c.in-Some-change_at.ensures
    (c.moves_before.ensures t)
