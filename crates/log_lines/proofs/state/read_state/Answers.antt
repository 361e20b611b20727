use Rattle.log_lines.proofs.States.{no_state}
use Rattle.log_lines.proofs.state.read_state.Goals as goal

pub returns-in-None : goal.returns-in-None
returns-in-None c =
    no_state c.args.text.now c.in_default.ensures c.in_default-ports_of.ensures
    (rw c.in-None.is at c.in_ok-entry.ensures.none)
