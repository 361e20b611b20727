use Rattle.histories.proofs.Verdicts.{verdicts_exclude}
use Rattle.histories.proofs.laws.verdicts_exclude.Goals as goal

pub returns : goal.returns
returns g c = verdicts_exclude _
