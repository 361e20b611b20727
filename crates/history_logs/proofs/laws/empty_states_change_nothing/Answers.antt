use Rattle.history_logs.proofs.Starting.{empty_none}
use Rattle.history_logs.proofs.laws.empty_states_change_nothing.Goals as goal

pub returns : goal.returns
returns c = empty_none
