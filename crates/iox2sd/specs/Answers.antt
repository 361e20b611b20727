-- What exports return beside a status of their own.
use Rattle.std.specs.Prelude.{ℕ, Result, Ok, Err}
use Rattle.iox2sd.specs.Ports.{no_handle, no_port}
use Rattle.iox2sd.specs.Prelude.{NodeRemoval, Open, Locked, Refused, HandleAnswer, IdAnswer, NumberAnswer, Roles, Handle, Port, Counts, id_of, code, Id, Status}
use Rattle.iox2sd.specs.declared.values.DeadNodeRemoval.{DeadNodeRemoval}
use Rattle.iox2sd.specs.declared.values.PortAnswer.{PortAnswer}
use Rattle.iox2sd.specs.declared.values.RolesAnswer.{RolesAnswer}
use Rattle.iox2sd_common.specs.declared.status.Status.TheVariants as status

-- a handle, or the status of a refusal with the handle that stands for nothing
abbrev pub handle_answer : Result Handle Status → HandleAnswer
handle_answer (Ok handle) = record { status = code status.Done; handle = handle }
handle_answer (Err s) = record { status = code s; handle = no_handle }

-- a number, or the status of a refusal
abbrev pub number_answer : Result ℕ Status → NumberAnswer
number_answer (Ok n) = record { status = code status.Done; number = n }
number_answer (Err s) = record { status = code s; number = 0 }

-- two roles, or the status of a refusal
abbrev pub roles_answer : Result Roles Status → RolesAnswer
roles_answer (Ok roles) =
    record { status = code status.Done; first = roles.first; second = roles.second }
roles_answer (Err s) = record { status = code s; first = 0; second = 0 }

-- a node, or the status of a refusal
abbrev pub id_answer : Result Id Status → IdAnswer
id_answer (Ok id) = record { status = code status.Done; id = id }
id_answer (Err s) = record { status = code s; id = id_of 0 }

-- a port, or the status of a refusal
abbrev pub port_answer : Result Port Status → PortAnswer
port_answer (Ok port) = record { status = code status.Done; port = port }
port_answer (Err s) = record { status = code s; port = no_port }

-- a status, and how many ports of each kind went
abbrev pub removal_with : Status → Counts → DeadNodeRemoval
removal_with s gone = record { status = code s; first = gone.first; second = gone.second }

-- what became of a dead node, as C sees it
abbrev pub removal_answer : NodeRemoval → DeadNodeRemoval
removal_answer (Open gone) = removal_with status.Done gone
removal_answer (Locked gone) = removal_with status.DoneLocked gone
removal_answer (Refused s) = removal_with s (record { first = 0; second = 0 })
