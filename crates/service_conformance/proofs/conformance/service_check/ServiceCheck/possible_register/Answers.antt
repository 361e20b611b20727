use Rattle.service_conformance.proofs.Possibles.{registers}
use Rattle.service_conformance.proofs.conformance.service_check.ServiceCheck.possible_register.Goals as goal

pub returns : goal.returns
returns c =
    rw (← c.self.view_is, c.possible_add.ensures)
    (registers _ _ _ c.self.invariant c.refusal-why.ensures)
