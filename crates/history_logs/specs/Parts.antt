-- What the fields of a service, and of the callers, of a log tell.
use Rattle.std.specs.Cmp.Lexicographic.{slice_cmp}
use Rattle.std.specs.Global.{Vec}
use Rattle.std.specs.List.{count_by}
use Rattle.std.specs.Map.{lookup, values_of}
use Rattle.std.specs.Ordering.{is_eq, nat_cmp}
use Rattle.std.specs.Prelude.{◌≡◌, ◌+◌, ◌++◌, ℕ, List, Bool, false, Option, Some, None, cond, eqb, get_or, replicate}
use Rattle.history_logs.specs.declared.logs.callers.CallerState.{CallerState}
use Rattle.history_logs.specs.declared.logs.callers.CallerState.TheVariants as caller
use Rattle.history_logs.specs.declared.logs.service.LogService.TheInside as service
use Rattle.history_logs.specs.Reading.{Sets}
use Rattle.history_logs.specs.Seen.{Service, forgotten}

-- the service that its fields tell
abbrev pub service_of : service.Inside → Service
service_of c = record {
  line = c.line;
  start = c.start;
  first = c.first;
  calls = replicate c.first forgotten ++ c.calls.items;
  given = c.given.items;
  begins = c.begins.items;
  commands = c.commands.items;
  events = c.events.items;
  event_lines = c.event_lines.items;
}

-- what the callers do that they tell
abbrev pub callers_of : List (Vec ℕ × CallerState) → List ℕ → Option CallerState
callers_of states name = lookup (λ (k : Vec ℕ). is_eq (slice_cmp nat_cmp name k.items)) states

-- whether a caller that does this has a call open on the service at the index
abbrev pub is_on : ℕ → CallerState → Bool
is_on at (caller.Calls on number) = eqb on at
is_on at _ = false

-- so many have one open on it, where one caller does this
abbrev pub on_by : ℕ → Option CallerState → ℕ
on_by at None = 0
on_by at (Some state) = cond (is_on at state) 1 0

-- so many have one open on it
abbrev pub open_on : ℕ → List (Vec ℕ × CallerState) → ℕ
open_on at states = count_by (is_on at) (values_of states)

-- the counts are those of the calls that are open on the service at each index
abbrev pub AreOpen : List ℕ → List (Vec ℕ × CallerState) → Type 0
AreOpen counts states = (at : ℕ) → get_or counts at 0 ≡ open_on at states

-- the caller did this, and does that from now on; the others what they did
pub record Puts (old : List (Vec ℕ × CallerState)) (name : List ℕ) (was : Option CallerState)
    (state : CallerState) (new : List (Vec ℕ × CallerState)) : Type 0 where
  pub sets : Sets (callers_of old) name state (callers_of new)
  pub did : was ≡ callers_of old name
  pub count : (at : ℕ) → open_on at new + on_by at was ≡ open_on at old + on_by at (Some state)
