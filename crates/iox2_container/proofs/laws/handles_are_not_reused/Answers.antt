use Rattle.iox2_container.proofs.Histories.{handles_differ}
use Rattle.iox2_container.proofs.laws.handles_are_not_reused.Goals as goal

pub returns : goal.returns
returns g c = handles_differ
