-- What holds of all lines.
use Rattle.std.specs.Prelude.{◌≡◌, ℕ, List, Option, IsTrue}
use Rattle.std.specs.Global.{Vec}
use Rattle.service_descriptions.specs.declared.replay.machine.command.Cleanup.TheVariants.{ByPort}
use Rattle.service_descriptions.specs.declared.replay.machine.command.Command.{Command}
use Rattle.service_descriptions.specs.declared.replay.machine.command.Command.TheVariants as script
use Rattle.service_descriptions.specs.declared.replay.lines.line.ServiceLine.{ServiceLine}
use Rattle.service_descriptions.specs.Script.{service_line}
use Rattle.log_lines.specs.declared.form.LogForm.{LogForm}
use Rattle.log_lines.specs.Commands.{Begun, HasBegun, NamedCommand, begun_text}
use Rattle.log_lines.specs.Commands.Begun.{command}
use Rattle.log_lines.specs.Commands.NamedCommand.{numbered}
use Rattle.log_lines.specs.Forms.{IsWord, first_word}
use Rattle.log_lines.specs.Lines.{Line, IsLine, given_text, is_note, line_text}
use Rattle.log_lines.specs.States.{State}
use Rattle.log_lines.specs.Lines.Line.{service, call, reply, begin, end, crash, given}

-- the same line, but for its command
abbrev pub IsAlike : Line → Line → Type 0
IsAlike (service one) (service other) = one ≡ other
IsAlike (call one c) (call other d) = one ≡ other
IsAlike (reply one) (reply other) = one ≡ other
IsAlike (begin one a c) (begin other b d) = (one ≡ other) × (a ≡ b)
IsAlike (end a one) (end b other) = (a ≡ b) × (one ≡ other)
IsAlike (crash a) (crash b) = a ≡ b
IsAlike (given one s) (given other t) = (one ≡ other) × (s ≡ t)
IsAlike _ _ = ⊥

-- the command that removes a dead node, and lets these ports stay
abbrev pub dead : ℕ → Vec ℕ → Command
dead node kept = script.Dead node (ByPort kept)

-- the same command, or one with the same list in other memory
pub data IsSameCommand : NamedCommand → NamedCommand → Type 0 where
  own_command : (c : NamedCommand) → IsSameCommand c c
  other_kept : (node : ℕ) (kept other : Vec ℕ) → kept.items ≡ other.items
      → IsSameCommand (numbered (dead node kept)) (numbered (dead node other))

-- what a caller begins, or what has the same list in other memory
pub data IsSameBegun : Begun → Begun → Type 0 where
  own_begun : (b : Begun) → IsSameBegun b b
  other_begun : (c d : NamedCommand) → IsSameCommand c d → IsSameBegun (command c) (command d)

-- the same line, or one that has the same list in other memory
pub data IsSameLine : Line → Line → Type 0 where
  own_line : (l : Line) → IsSameLine l l
  other_call : (number : Option ℕ) (c d : NamedCommand) → IsSameCommand c d
      → IsSameLine (call number c) (call number d)
  other_begin : (number : Option ℕ) (name : List ℕ) (b c : Begun) → IsSameBegun b c
      → IsSameLine (begin number name b) (begin number name c)

-- no two lines have one text, but for the memory of a list
abbrev pub LinesAreReadOneWay : Type 0
LinesAreReadOneWay = (one other : Line) → IsLine one → IsLine other
    → line_text one ≡ line_text other → IsSameLine one other

-- a note has the text of no line
abbrev pub NotesAreNoLines : Type 0
NotesAreNoLines = (line : Line) → IsLine line → ¬ (IsTrue (is_note (line_text line)))

-- the text begins with the word of a form
abbrev pub HasWord : List ℕ → Type 0
HasWord text = (f : LogForm) × IsWord f (first_word text)

-- What a caller begins, what is given of a service and the line of one begin with the word of a
-- form. A command begins as what a caller does.
pub record LinesHaveForms : Type 0 where
  pub begun : (b : Begun) → HasBegun b → HasWord (begun_text b)
  pub given : (s : State) → HasWord (given_text s)
  pub service : (l : ServiceLine) → HasWord (service_line l)
