-- What the lines of a log give of a service that was in use.
use Rattle.std.specs.Prelude.{◌≢◌, ℕ, ◌<◌, ◌^◌, Bool, true, false, List, [], ◌++◌, codes}
use Rattle.std.specs.Fmt.{decimal}
use Rattle.iox2_container.specs.declared.container.handle.Role.{Role}
use Rattle.iox2_container.specs.declared.container.handle.Role.TheVariants as role
use Rattle.service_descriptions.specs.declared.replay.machine.command.Command.{Command}
use Rattle.service_descriptions.specs.declared.replay.machine.command.Command.TheVariants as command
use Rattle.service_descriptions.specs.Lines.{HasLine, line_of, plain_of, role_word}
use Rattle.log_lines.specs.declared.state.LogState.{LogState}
use Rattle.log_lines.specs.declared.state.LogState.TheVariants as spelled
use Rattle.log_lines.specs.Commands.{IsHandle}

-- What a line gives.
-- nodes: how many tickets of the nodes were used, and whether the service is locked
-- ports: how many tickets of the ports of a role were used
-- entry: an entry, with its slot, its ticket and the command that adds it
pub data State : Type 0 where
  nodes : (used : ℕ) → (locked : Bool) → State
  ports : Role → (used : ℕ) → State
  entry : (slot ticket : ℕ) → Command → State

-- what stands behind the used tickets of a locked service
abbrev pub locked_word : Bool → List ℕ
locked_word true = codes " locked"
locked_word false = []

-- the used tickets of the nodes, and whether the service is locked
abbrev pub nodes_text : ℕ × Bool → List ℕ
nodes_text given = codes "nodes " ++ (decimal given.0 ++ locked_word given.1)

-- the used tickets of the ports of a role
abbrev pub ports_text : Role × ℕ → List ℕ
ports_text given = role_word given.0 ++ (codes " " ++ decimal given.1)

-- an entry
abbrev pub entry_text : ℕ → ℕ → Command → List ℕ
entry_text slot ticket c =
    decimal slot ++ (codes " " ++ (decimal ticket ++ (codes " " ++ line_of c)))

-- the text of what is given
abbrev pub state_text : State → List ℕ
state_text (nodes used locked) = nodes_text (used, locked)
state_text (ports r used) = ports_text (r, used)
state_text (entry slot ticket c) = entry_text slot ticket c

-- the command adds an entry
abbrev pub AddsEntry : Command → Type 0
AddsEntry (command.Register id) = Unit {0}
AddsEntry (command.Add details) = Unit {0}
AddsEntry _ = ⊥

-- the used tickets of nodes have a text
abbrev pub HasNodes : ℕ × Bool → Type 0
HasNodes given = given.0 < 2 ^ 64

-- the used tickets of the ports of a role have a text
abbrev pub HasPorts : Role × ℕ → Type 0
HasPorts given = (given.0 ≢ role.Node) × (given.1 < 2 ^ 64)

-- an entry has a text
abbrev pub HasEntry : ℕ → ℕ → Command → Type 0
HasEntry slot ticket c = IsHandle (slot, ticket) × HasLine c × AddsEntry c

-- what is given has a text
abbrev pub HasState : State → Type 0
HasState (nodes used locked) = HasNodes (used, locked)
HasState (ports r used) = HasPorts (r, used)
HasState (entry slot ticket c) = HasEntry slot ticket c

-- what a line gives
abbrev pub state_seen : LogState → State
state_seen (spelled.Nodes used locked) = nodes used locked
state_seen (spelled.Ports r used) = ports r used
state_seen (spelled.Node slot ticket id) = entry slot ticket (command.Register id)
state_seen (spelled.Port slot ticket port) = entry slot ticket (command.Add (plain_of port))
