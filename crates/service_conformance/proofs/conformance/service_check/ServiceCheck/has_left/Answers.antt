use Rattle.std.proofs.Common.{◌∙◌}
use Rattle.service_conformance.proofs.Registries.{some_left}
use Rattle.service_conformance.proofs.conformance.service_check.ServiceCheck.has_left.Goals as goal

pub returns : goal.returns
returns c =
    rw (← c.self.view_is)
    (c.has_left_in.ensures ∙ some_left c.args.dead.now c.args.kept.now c.self.inside.first
    c.self.inside.second)
