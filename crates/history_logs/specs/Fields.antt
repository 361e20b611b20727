-- What the fields of what is read tell.
use Rattle.std.specs.BTreeMap.{BTreeMap, get}
use Rattle.std.specs.Option.{option_map, option_or}
use Rattle.std.specs.Ordering.{nat_cmp}
use Rattle.std.specs.Prelude.{◌≡◌, ◌==◌, ℕ, suc, List, [], ◌∷◌, Option, Some, None, if◌then◌else◌, map}
use Rattle.log_lines.specs.declared.command.LogCommand.{LogCommand}
use Rattle.log_lines.specs.Commands.{NamedCommand, named}
use Rattle.history_logs.specs.declared.logs.reading.Reading.{Reading}
use Rattle.history_logs.specs.Parts.{callers_of}
use Rattle.history_logs.specs.Reading.{IsSane, Log}
use Rattle.history_logs.specs.Seen.{Service}

-- the command that waits for its reply, with the index of its service
abbrev pub waits_in : Option (ℕ × LogCommand) → Option (ℕ × NamedCommand)
waits_in None = None
waits_in (Some call) = Some (call.0, named call.1)

-- what was read, as its fields tell it
abbrev pub log_of : Reading → Log
log_of r = record {
  services = r.services.items;
  callers = callers_of r.callers;
  waits = waits_in r.waits;
}

-- the index of the last of the numbers that is this one
abbrev pub last_of : List ℕ → ℕ → Option ℕ
last_of [] number = None
last_of (n ∷ numbers) number =
    option_or (option_map suc (last_of numbers number)) (if number == n then Some 0 else None)

-- the numbers of the services
abbrev pub numbers_in : List Service → List ℕ
numbers_in services = map (λ (s : Service). s.line.number) services

-- each number of the services is there, with the index of the last one that has it, and no other
abbrev pub AreNumbers : BTreeMap ℕ ℕ → List Service → Type 0
AreNumbers numbers services =
    (number : ℕ) → get nat_cmp numbers number ≡ last_of (numbers_in services) number

-- what was read is sane, and its services have its numbers
pub record IsReady (r : Reading) : Type 0 where
  pub sane : IsSane (log_of r)
  pub numbers : AreNumbers r.numbers r.services.items
