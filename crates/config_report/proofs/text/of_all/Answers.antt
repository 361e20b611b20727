use Rattle.config_report.proofs.AllPorts.{all_of_none}
use Rattle.config_report.proofs.text.of_all.Goals as goal

pub returns-in-None : goal.returns-in-None
returns-in-None c = λ limits tells.
    rw c.if-ports-eq0.true (all_of_none limits)
