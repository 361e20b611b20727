-- Commands as the lines of a log have them.
use Rattle.std.specs.Prelude.{◌≢◌, ℕ, ◌<◌, ◌^◌, List, ◌++◌, codes}
use Rattle.std.specs.Fmt.{decimal}
use Rattle.iox2_container.specs.declared.container.handle.Role.{Role}
use Rattle.iox2_container.specs.declared.container.handle.Role.TheVariants as role
use Rattle.service_descriptions.specs.declared.replay.machine.command.Command.{Command}
use Rattle.service_descriptions.specs.Lines.{command_of, line_of, role_word, HasLine}
use Rattle.log_lines.specs.declared.command.BegunCall.{BegunCall}
use Rattle.log_lines.specs.declared.command.BegunCall.TheVariants as spelled_begun
use Rattle.log_lines.specs.declared.command.LogCommand.{LogCommand}
use Rattle.log_lines.specs.declared.command.LogCommand.TheVariants as spelled

-- A command as scripts have it, in which a removal names an earlier command by its number; or a
-- removal that names its handle.
pub data NamedCommand : Type 0 where
  numbered : Command → NamedCommand
  deregister : (slot ticket : ℕ) → NamedCommand
  release : Role → (slot ticket : ℕ) → NamedCommand

-- a slot, a space and a ticket
abbrev pub handle_text : ℕ × ℕ → List ℕ
handle_text handle = decimal handle.0 ++ (codes " " ++ decimal handle.1)

-- a slot and a ticket that have a text
abbrev pub IsHandle : ℕ × ℕ → Type 0
IsHandle handle = (handle.0 < 2 ^ 64) × (handle.1 < 2 ^ 64)

-- the text of a command
abbrev pub command_text : NamedCommand → List ℕ
command_text (numbered c) = line_of c
command_text (deregister slot ticket) = codes "deregister " ++ handle_text (slot, ticket)
command_text (release r slot ticket) =
    codes "release " ++ (role_word r ++ (codes " " ++ handle_text (slot, ticket)))

-- a command that has a text
abbrev pub HasText : NamedCommand → Type 0
HasText (numbered c) = HasLine c
HasText (deregister slot ticket) = IsHandle (slot, ticket)
HasText (release r slot ticket) = (r ≢ role.Node) × IsHandle (slot, ticket)

-- a removal that names its handle, and has a text
abbrev pub IsRemoval : NamedCommand → Type 0
IsRemoval (numbered c) = ⊥
IsRemoval c = HasText c

-- the command that a line has
abbrev pub named : LogCommand → NamedCommand
named (spelled.Numbered c) = numbered (command_of c)
named (spelled.Deregister slot ticket) = deregister slot ticket
named (spelled.Release r slot ticket) = release r slot ticket

-- What a caller begins: a command, or a weak listing of the ports of a role, or of the nodes.
pub data Begun : Type 0 where
  command : NamedCommand → Begun
  weak : Role → Begun

-- the text of a weak listing
abbrev pub weak_text : Role → List ℕ
weak_text role.Node = codes "nodes?"
weak_text r = codes "list? " ++ role_word r

-- the text of what a caller begins
abbrev pub begun_text : Begun → List ℕ
begun_text (command c) = command_text c
begun_text (weak r) = weak_text r

-- it has a text
abbrev pub HasBegun : Begun → Type 0
HasBegun (command c) = HasText c
HasBegun (weak r) = Unit {0}

-- what a line begins
abbrev pub begun_in : BegunCall → Begun
begun_in (spelled_begun.Command c) = command (named c)
begun_in (spelled_begun.Weak r) = weak r
