use Rattle.std.proofs.Common.{sym, ◌∙◌}
use Rattle.service_descriptions.proofs.Keeping.{found_is}
use Rattle.service_descriptions.proofs.replay.machine.cleanup.Kept.has.Goals as goal

pub returns-then-self : goal.returns-then-self
returns-then-self c =
    rw (sym c.self.view_is)
    (c.is_ok.ensures.value
    ∙ found_is c.self.inside.values.now c.args.value c.binary_search.result
    c.binary_search.ensures.position (c.self.invariant c.if-self.true))
