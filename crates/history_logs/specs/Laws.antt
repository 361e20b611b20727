-- What holds of all logs.
use Rattle.std.specs.Prelude.{◌≡◌, ◌≢◌, ◌⊎◌, ◌+◌, ◌≤◌, ◌++◌, ◌∷◌, [], ℕ, false, All, Contains, List, Option}
use Rattle.log_lines.specs.Lines.Line.{given}
use Rattle.log_lines.specs.States.{State}
use Rattle.log_lines.specs.States.State.{nodes, ports, entry}
use Rattle.history_logs.specs.declared.logs.verdict.Expected.{Expected}
use Rattle.history_logs.specs.declared.logs.verdict.Refusal.{Refusal}
use Rattle.history_logs.specs.declared.logs.verdict.Verdict.TheVariants.{BadLine, Conforms, Refused}
use Rattle.history_logs.specs.Logs.{HasGood, IsSeenRightly, Judged, PassesBound, first_lines}
use Rattle.history_logs.specs.Reading.{GoesOn, IsNamed, Log}
use Rattle.history_logs.specs.SameLogs.{IsSameLog}
use Rattle.history_logs.specs.Seen.{Service, unseen}

-- an empty registry is given, of which no ticket was used
abbrev pub IsEmptyState : State → Type 0
IsEmptyState (nodes used locked) = (used ≡ 0) × (locked ≡ false)
IsEmptyState (ports r used) = used ≡ 0
IsEmptyState (entry slot ticket c) = ⊥

-- calls on the service of this number were seen, and it begins anew, as its line says
abbrev pub IsAnew : Log → Option ℕ → Log → Type 0
IsAnew old number new =
    (at : ℕ) × (s : Service) × IsNamed number old.services at s × (s.calls ≢ [])
    × (new ≡ record old { services = old.services ++ unseen s.line ∷ [] })

-- a line that gives one leaves what was read as it was, but that a service with calls begins anew
abbrev pub EmptyStatesChangeNothing : Type 0
EmptyStatesChangeNothing =
    (old new : Log) (k : ℕ) (number : Option ℕ) (what : State) → IsEmptyState what
    → GoesOn old k (given number what) new → (new ≡ old) ⊎ IsAnew old number new

-- The good lines of a log are read in one way: as many are there in each reading, the same follows
-- them, and the same was read of them, but for the memory of lists in commands and replies.
abbrev pub LogsHaveOneReading : Type 0
LogsHaveOneReading =
    (bytes : List ℕ) (count other_count : ℕ) (log other : Log) (rest other_rest : List ℕ)
    → HasGood bytes count log rest → HasGood bytes other_count other other_rest
    → (count ≡ other_count) × (rest ≡ other_rest) × IsSameLog log other

-- A log that conforms has no bad line, and where it conforms or has one, it is not refused. Its
-- calls and services are counted in one way, and one line of it is bad.
pub record VerdictsExclude (bytes : List ℕ) : Type 0 where
  pub conforms_or_refused : (n m : ℕ) (r : Refusal) → Judged bytes (Conforms n m)
      → ¬ (Judged bytes (Refused r))
  pub conforms_or_bad : (n m k : ℕ) (e : Expected) → Judged bytes (Conforms n m)
      → ¬ (Judged bytes (BadLine k e))
  pub bad_or_refused : (k : ℕ) (e : Expected) (r : Refusal) → Judged bytes (BadLine k e)
      → ¬ (Judged bytes (Refused r))
  pub one_count : (n m i j : ℕ) → Judged bytes (Conforms n m) → Judged bytes (Conforms i j)
      → (n ≡ i) × (m ≡ j)
  pub one_line : (k j : ℕ) (e f : Expected) → Judged bytes (BadLine k e)
      → Judged bytes (BadLine j f) → k ≡ j

-- What is explained down to a line is explained down to each line above it: where an order explains
-- what is seen of each service in the good ones of so many lines, one does in those of fewer. There
-- a call that is answered further down has no reply, and a weak listing that is answered there is
-- open.
abbrev pub LinesAboveAreExplained : Type 0
LinesAboveAreExplained =
    (bytes : List ℕ) (n m : ℕ) → n ≤ m
    → (count other_count : ℕ) (log other : Log) (rest other_rest : List ℕ)
    → HasGood (first_lines n bytes) count log rest
    → HasGood (first_lines m bytes) other_count other other_rest
    → All IsSeenRightly other.services → All IsSeenRightly log.services

-- what is seen of a service in the good lines of the text passes a bound
abbrev pub PassesBoundIn : List ℕ → Type 0
PassesBoundIn text =
    (count : ℕ) × (log : Log) × (rest : List ℕ) × HasGood text count log rest
    × ((s : Service) × (line : ℕ) × Contains log.services s × PassesBound s line)

-- Where a log is refused at a line, what is seen down to it is not explained, nor what is seen down
-- to a line below it. So it is refused at a line below it only where a bound is passed above that
-- one.
pub record OneLineIsRefused (bytes : List ℕ) : Type 0 where
  pub below : (r : Refusal) → Judged bytes (Refused r) → (m : ℕ) → r.line ≤ m
      → (count : ℕ) (log : Log) (rest : List ℕ) → HasGood (first_lines m bytes) count log rest
      → ¬ (All IsSeenRightly log.services)
  pub apart : (r other : Refusal) (above : ℕ) → Judged bytes (Refused r)
      → Judged bytes (Refused other) → r.line ≤ above → other.line ≡ above + 1
      → PassesBoundIn (first_lines above bytes)
