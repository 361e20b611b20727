-- What was seen of a service.
use Rattle.std.specs.Prelude.{◌≡◌, ◌⊎◌, ◌+◌, ◌-◌, ◌≤◌, ℕ, drop, replicate, zero, suc, List, [], ◌∷◌, ◌++◌, Option, Some, None, get_or, length, option_and_then, slice_get}
use Rattle.std.specs.List.{slice_set}
use Rattle.histories.specs.declared.front.Event.{Event}
use Rattle.histories.specs.declared.front.Event.TheVariants.{Begin, End, Crash}
use Rattle.iox2_container.specs.declared.container.handle.Role.{Role}
use Rattle.iox2_container.specs.declared.container.handle.Role.TheVariants as role
use Rattle.iox2_container.specs.State.{Handle}
use Rattle.iox2_dynamic.specs.Service as dynamic
use Rattle.log_lines.specs.Commands.{Begun, NamedCommand}
use Rattle.log_lines.specs.Commands.Begun.{command as begun_command, weak}
use Rattle.log_lines.specs.Commands.NamedCommand.{numbered, deregister, release}
use Rattle.service_conformance.specs.declared.conformance.seen_reply.SeenReply.{SeenReply}
use Rattle.service_conformance.specs.declared.conformance.seen_reply.SeenReply.TheVariants as reply
use Rattle.service_conformance.specs.declared.conformance.possible.Part.{Part}
use Rattle.service_conformance.specs.declared.conformance.possible.Part.TheVariants as part
use Rattle.service_conformance.specs.Calls.{call_of}
use Rattle.service_conformance.specs.Judged.{Judged, judged_answered, role_added, shown, stopped}
use Rattle.service_conformance.specs.Judged.Judged.{call, starts, stops}
use Rattle.service_conformance.specs.Sides.{HasPart, LacksPart}
use Rattle.service_descriptions.specs.declared.replay.lines.line.ServiceLine.{ServiceLine}
use Rattle.service_descriptions.specs.Script.{first_state}
use Rattle.service_descriptions.specs.declared.replay.machine.command.Command.{Command}
use Rattle.service_descriptions.specs.declared.replay.machine.command.Command.TheVariants as command

-- A service of a log, what it is before its first call, and what was seen of it. Its calls stand by
-- their begins. Each has the handle that its reply gave, if it gave one, and the line in which it
-- begins. Each command has the number of the call with which it begins, since a weak listing is two
-- calls. Each event has its line.
-- Where a log is read as a whole, no call is forgotten, and `first` is 0. Where it is judged while
-- it is read, so many of the first calls are forgotten: what stands for them says nothing.
pub record Service : Type 0 where
  pub line : ServiceLine
  pub start : dynamic.Service
  pub first : ℕ
  pub calls : List Judged
  pub given : List (Option Handle)
  pub begins : List ℕ
  pub commands : List ℕ
  pub events : List Event
  pub event_lines : List ℕ

-- each call has its handle and its line, and each event its line; none is forgotten
pub record HasAll (s : Service) : Type 0 where
  pub whole : s.first ≡ 0
  pub given : length s.given ≡ length s.calls
  pub begins : length s.begins ≡ length s.calls
  pub event_lines : length s.event_lines ≡ length s.events

-- each call has its handle, also one that is forgotten
pub record HasHandles (s : Service) : Type 0 where
  pub given : length s.given ≡ length s.calls
  pub first : s.first ≤ length s.calls

-- what stands for a call that is forgotten
abbrev pub forgotten : Judged
forgotten = starts part.Nodes None

-- a service of which nothing was seen
abbrev pub unseen : ServiceLine → Service
unseen line = record {
  line = line;
  start = (first_state line).service;
  first = 0;
  calls = [];
  given = [];
  begins = [];
  commands = [];
  events = [];
  event_lines = [];
}

-- the handle that a call gave, by those that all calls gave
abbrev pub given_at : List (Option Handle) → Option ℕ → Option Handle
given_at given None = None
given_at given (Some number) = get_or given number None

-- the handle that the command of this number gave, by what is above
abbrev pub given_by : Service → ℕ → Option Handle
given_by s number = given_at s.given (slice_get s.commands number)

-- the handle that a command names, by what is above
abbrev pub handle_named : Service → Command → Option Handle
handle_named s (command.Deregister number) = given_by s number
handle_named s (command.Release number) = given_by s number
handle_named s _ = None

-- a handle of the service with this line
abbrev pub handle_in : ServiceLine → Role → ℕ → ℕ → Handle
handle_in line r slot ticket =
    record { service = line.number; role = r; slot = slot; ticket = ticket }

-- the call of a command, by what is above
abbrev pub called : Service → NamedCommand → Judged
called s (numbered c) = call (call_of c (handle_named s c))
called s (deregister slot ticket) =
    call (call_of (command.Deregister 0) (Some (handle_in s.line role.Node slot ticket)))
called s (release r slot ticket) =
    call (call_of (command.Release 0) (Some (handle_in s.line r slot ticket)))

-- the handle that a reply gives to a call that adds an entry of this role
abbrev pub given_in : ServiceLine → Option Role → SeenReply → Option Handle
given_in line (Some r) (reply.Handle slot ticket) = Some (handle_in line r slot ticket)
given_in line _ _ = None

-- the role of the entry that the call adds, if it is one that adds one
abbrev pub added_by : Option Judged → Option Role
added_by None = None
added_by (Some c) = role_added c

-- a call begins in this line, with what its reply gives
abbrev pub with_call : Service → Judged → Option Handle → ℕ → Service
with_call s c gives line = record {
  line = s.line;
  start = s.start;
  first = s.first;
  calls = s.calls ++ c ∷ [];
  given = s.given ++ gives ∷ [];
  begins = s.begins ++ line ∷ [];
  commands = s.commands;
  events = s.events ++ Begin (length s.calls) ∷ [];
  event_lines = s.event_lines ++ line ∷ [];
}

-- a call begins in this line, and is no command of its own
abbrev pub with_part : Service → Judged → ℕ → Service
with_part s c line = with_call s c None line

-- the call of a command begins in this line, with what its reply gives
abbrev pub with_begun : Service → Judged → Option Handle → ℕ → Service
with_begun s c gives line =
    record (with_call s c gives line) { commands = s.commands ++ length s.calls ∷ [] }

-- a call begins in this line
abbrev pub with_begin : Service → Judged → ℕ → Service
with_begin s c line = with_begun s c None line

-- the call of this number is over in this line, and has no reply
abbrev pub with_over : Service → ℕ → ℕ → Service
with_over s number line = record s {
  events = s.events ++ End number ∷ [];
  event_lines = s.event_lines ++ line ∷ [];
}

-- a weak listing of a part that starts to look, and one that stops, whose replies were not seen
abbrev pub starting : Part → Judged
starting p = starts p None

abbrev pub stopping : ℕ → Judged
stopping start = stops start None

-- A weak listing of a part begins in this line: it starts to look at once, and then stops until it
-- ends.
abbrev pub with_look : Service → Part → ℕ → Service
with_look s p line =
    with_part (with_over (with_begin s (starting p) line) (length s.calls) line)
    (stopping (length s.calls)) line

-- What begins in this line makes another service of one, and what is open then has this number. A
-- weak listing of ports that the pattern has not is a listing.
abbrev pub Begins : Service → Begun → ℕ → Service → ℕ → Type 0
Begins s (begun_command c) line new number =
    (new ≡ with_begin s (called s c) line) × (number ≡ length s.calls)
Begins s (weak r) line new number =
    ((p : Part) × HasPart s.start.pattern r p × (new ≡ with_look s p line)
    × (number ≡ length s.calls + 1))
    ⊎ (LacksPart s.start.pattern r
    × (new ≡ with_begin s (called s (numbered (command.List r))) line)
    × (number ≡ length s.calls))

-- the calls, of which the one of this number is another
abbrev pub changed : (Judged → Judged) → List Judged → ℕ → List Judged
changed f [] number = []
changed f (c ∷ calls) zero = f c ∷ calls
changed f (c ∷ calls) (suc number) = c ∷ changed f calls number

-- the number with which the weak listing began that stops with the call of this number
abbrev pub start_of : List Judged → ℕ → Option ℕ
start_of calls number = option_and_then stopped (slice_get calls number)

-- the calls, where this is the reply to the weak listing that began with this number
abbrev pub calls_shown : List Judged → Option ℕ → SeenReply → List Judged
calls_shown calls None r = calls
calls_shown calls (Some start) r = changed (λ c. shown c r) calls start

-- the same of calls the first of which has this number, where the weak listing is one of them
abbrev pub calls_shown_from : ℕ → List Judged → Option ℕ → SeenReply → List Judged
calls_shown_from first calls None r = calls
calls_shown_from first calls (Some start) r = changed (λ c. shown c r) calls (start - first)

-- the calls, of which the one of this number was answered so
abbrev pub calls_answered : List Judged → ℕ → SeenReply → List Judged
calls_answered calls number r =
    changed (λ c. judged_answered c r) (calls_shown calls (start_of calls number) r) number

-- the call of this number is kept, and the weak listing too that it stops, if it stops one
pub record IsKeptCall (s : Service) (number : ℕ) : Type 0 where
  pub call : s.first ≤ number
  pub start : (start : ℕ) → start_of s.calls number ≡ Some start → s.first ≤ start

-- the call of this number was answered so in this line
abbrev pub with_end : Service → ℕ → SeenReply → ℕ → Service
with_end s number r line = record s {
  calls = calls_answered s.calls number r;
  given = slice_set s.given number (given_in s.line (added_by (slice_get s.calls number)) r);
  events = s.events ++ End number ∷ [];
  event_lines = s.event_lines ++ line ∷ [];
}

-- a call alone began and was answered so in this line
abbrev pub with_alone : Service → Judged → SeenReply → ℕ → Service
with_alone s c r line = with_end (with_begin s c line) (length s.calls) r line

-- the caller of the call of this number died above this line
abbrev pub with_crash : Service → ℕ → ℕ → Service
with_crash s number line = record s {
  events = s.events ++ Crash number ∷ [];
  event_lines = s.event_lines ++ line ∷ [];
}

-- the service, where the calls below this number are forgotten, so many of the events, and all
-- lines
abbrev pub forgetting : Service → ℕ → ℕ → Service
forgetting s first followed = record s {
  first = first;
  calls = replicate first forgotten ++ drop first s.calls;
  begins = [];
  events = drop followed s.events;
  event_lines = [];
}

-- the service, where this is what it is before its first call
abbrev pub started : Service → dynamic.Service → Service
started s start = record s { start = start }
