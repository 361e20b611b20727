use Rattle.history_logs.proofs.Readings.{one_reading}
use Rattle.history_logs.proofs.laws.logs_have_one_reading.Goals as goal

pub returns : goal.returns
returns c = one_reading
