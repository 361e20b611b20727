-- The texts of ids, commands and services in a script.
use Rattle.std.specs.Prelude.{◌≡◌, ◌≢◌, ℕ, ◌<◌, ◌^◌, List, [], ◌∷◌, ◌++◌, codes, map}
use Rattle.service_descriptions.specs.Prelude.{decimal, AllByRecursion, join_with_byte, packed, process_of, seconds_of, nanoseconds_of, counter_of, owner_of, port_value, Role, PortDetails, role_of, node_of, port_of, ByPort, Command, line_end}
use Rattle.iox2_config.specs.declared.config.choices.DataSegmentType.TheVariants.{Static}
use Rattle.iox2_container.specs.declared.container.handle.Role.TheVariants as role
use Rattle.iox2_dynamic.specs.declared.dynamic_config.port_details.PortDetails.TheVariants as of
use Rattle.service_descriptions.specs.declared.replay.machine.command.Command.TheVariants as command
use Rattle.service_descriptions.specs.declared.replay.machine.command.Parts.{Parts}
use Rattle.service_descriptions.specs.declared.replay.machine.command.ScriptPort.{ScriptPort}
use Rattle.service_descriptions.specs.declared.replay.machine.command.LineCommand.{LineCommand}
use Rattle.service_descriptions.specs.declared.replay.machine.command.LineCommand.TheVariants as spelled
use Rattle.line_streams.specs.declared.phrase.LineEnd.{LineEnd}

-- the four parts of an id, joined by dots
abbrev pub id_text : ℕ → List ℕ
id_text id =
    join_with_byte 46
    (decimal (process_of id) ∷ decimal (seconds_of id) ∷ decimal (nanoseconds_of id)
    ∷ decimal (counter_of id) ∷ [])

-- the number of an id: four parts of 32 bits
abbrev pub IsId : ℕ → Type 0
IsId id = id < 2 ^ 128

-- the number of a node's id: process or counter is not 0
abbrev pub IsNodeId : ℕ → Type 0
IsNodeId id = IsId id × (0 < owner_of id)

-- the word for ports of a role. Nodes are not named by it
abbrev pub role_word : Role → List ℕ
role_word role.Publisher = codes "publisher"
role_word role.Subscriber = codes "subscriber"
role_word role.Listener = codes "listener"
role_word role.Notifier = codes "notifier"
role_word role.Server = codes "server"
role_word role.Client = codes "client"
role_word role.Reader = codes "reader"
role_word role.Writer = codes "writer"
role_word role.Node = []

-- the details that a script gives a port of this role, id and node
abbrev pub plain : Role → ℕ → ℕ → PortDetails
plain role.Publisher port node = of.Publisher (record {
  publisher_id = port;
  node_id = node;
  number_of_samples = 0;
  max_slice_len = 0;
  data_segment_type = Static;
  max_number_of_segments = 1;
})
plain role.Subscriber port node =
    of.Subscriber (record { subscriber_id = port; node_id = node; buffer_size = 0 })
plain role.Listener port node = of.Listener (record { listener_id = port; node_id = node })
plain role.Notifier port node = of.Notifier (record { notifier_id = port; node_id = node })
plain role.Server port node = of.Server (record {
  server_id = port;
  node_id = node;
  request_buffer_size = 0;
  number_of_responses = 0;
  max_slice_len = 0;
  data_segment_type = Static;
  max_number_of_segments = 1;
})
plain role.Client port node = of.Client (record {
  client_id = port;
  node_id = node;
  number_of_requests = 0;
  response_buffer_size = 0;
  max_slice_len = 0;
  data_segment_type = Static;
  max_number_of_segments = 1;
})
plain role.Writer port node = of.Writer (record { writer_id = port; node_id = node })
plain _ port node = of.Reader (record { reader_id = port; node_id = node })

-- details of a port as a script gives them, with an id and a node alone
pub record IsPlain (d : PortDetails) : Type 0 where
  pub port : IsId (port_value (port_of d))
  pub node : IsNodeId (node_of d)
  pub others : d ≡ plain (role_of d) (port_value (port_of d)) (node_of d)

-- the words for the ports that stay
abbrev pub skip_words : List ℕ → List (List ℕ)
skip_words [] = []
skip_words (port ∷ ports) = codes "skip" ∷ id_text port ∷ map id_text ports

-- the words of a command's line
abbrev pub words_of : Command → List (List ℕ)
words_of (command.Register id) = codes "register" ∷ id_text id ∷ []
words_of (command.Deregister k) = codes "deregister" ∷ decimal k ∷ []
words_of command.Nodes = codes "nodes" ∷ []
words_of (command.Add d) = codes "add" ∷ role_word (role_of d) ∷ id_text (port_value (port_of d))
    ∷ id_text (node_of d) ∷ []
words_of (command.Release k) = codes "release" ∷ decimal k ∷ []
words_of (command.List r) = codes "list" ∷ role_word r ∷ []
words_of (command.Count r) = codes "count" ∷ role_word r ∷ []
words_of (command.Dead id (ByPort kept)) = codes "dead" ∷ id_text id ∷ skip_words kept.items
words_of _ = []

-- the line of a command without its newline: its words, with one space between two
abbrev pub line_of : Command → List ℕ
line_of c = join_with_byte 32 (words_of c)

-- a command that has a line
abbrev pub HasLine : Command → Type 0
HasLine (command.Register id) = IsNodeId id
HasLine (command.Deregister k) = k < 2 ^ 64
HasLine command.Nodes = Unit {0}
HasLine (command.Add d) = IsPlain d
HasLine (command.Release k) = k < 2 ^ 64
HasLine (command.List r) = r ≢ role.Node
HasLine (command.Count r) = r ≢ role.Node
HasLine (command.Dead id (ByPort kept)) = IsNodeId id × AllByRecursion IsId kept.items
-- the others have none
HasLine _ = ⊥

-- the number that the parts of an id make
abbrev pub value_of : Parts → ℕ
value_of p = packed p.process p.seconds p.nanoseconds p.counter

-- the details that a script gives a port
abbrev pub plain_of : ScriptPort → PortDetails
plain_of p = plain p.role (value_of p.port) p.node

-- commands with one line: the same command, with the same list in it
abbrev pub SameCommand : Command → Command → Type 0
SameCommand (command.Dead a (ByPort kept)) (command.Dead b (ByPort other)) = (a ≡ b)
    × (kept.items ≡ other.items)
SameCommand c d = c ≡ d

-- a command, and what follows the end of its line
abbrev pub IsLine : LineEnd → Command × List ℕ → Type 0
IsLine end line = HasLine line.0 × (line_end end).Fits (tt, line.1)

-- the text of a command, of the end of its line and of what follows it
abbrev pub line_text : LineEnd → Command × List ℕ → List ℕ
line_text end line = line_of line.0 ++ (line_end end).text (tt, line.1)

-- the command of a line
abbrev pub command_of : LineCommand → Command
command_of (spelled.Register id) = command.Register id
command_of (spelled.Deregister k) = command.Deregister k
command_of spelled.Nodes = command.Nodes
command_of (spelled.Add port) = command.Add (plain_of port)
command_of (spelled.Release k) = command.Release k
command_of (spelled.List role) = command.List role
command_of (spelled.Count role) = command.Count role
command_of (spelled.Dead node kept) = command.Dead node (ByPort kept)
