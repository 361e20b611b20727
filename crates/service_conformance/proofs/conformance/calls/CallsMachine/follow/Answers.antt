use Rattle.service_conformance.proofs.Judged.{window_none}
use Rattle.service_conformance.proofs.conformance.calls.CallsMachine.follow.Goals as goal

pub returns-in-None : goal.returns-in-None
returns-in-None c =
    window_none c.args.self.now.first c.args.self.now.calls.now c.args.call
    c.in-None.ensures.none c.args.state.now
