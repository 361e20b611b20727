use Rattle.iox2_container.proofs.Prelude.{occupant, rules}
use Rattle.iox2_container.proofs.container.passes.take_out.Goals as goal

pub clear-requires-clause-taken : goal.clear-requires-clause-taken
clear-requires-clause-taken g c = (occupant c.ticket.result c.in-Some.details, search rules)
