-- What is found of a service of a log, and what is reported of it.
use Rattle.std.specs.Prelude.{◌≡◌, ◌&&◌, ◌||◌, ℕ, ◌<◌, List, All, Bool, Contains, Option, Some, None, Result, Ok, Err, false, if◌then◌else◌, length, ltb, not, slice_get, sum_by, true}
use Rattle.std.specs.List.{AllZip}
use Rattle.std.specs.List.Sorted.{IsStrictlyIncreasing}
use Rattle.std.specs.Int.{bit_at}
use Rattle.histories.specs.declared.front.Event.{Event}
use Rattle.histories.specs.declared.front.Event.TheVariants.{Begin}
use Rattle.histories.specs.Frontier.{HasSlot, IsFrontOf}
use Rattle.histories.specs.Histories.{StandsAt}
use Rattle.histories.specs.declared.window.Cut.{Cut}
use Rattle.histories.specs.declared.window.Cut.TheVariants as cut
use Rattle.histories.specs.declared.window.Verdict.{Verdict as FoundOf}
use Rattle.histories.specs.declared.window.Verdict.TheVariants as found
use Rattle.histories.specs.declared.window.Stop.TheVariants as stop
use Rattle.histories.specs.declared.window.Window.{Window}
use Rattle.service_conformance.specs.Looks.{Watched}
use Rattle.history_logs.specs.declared.logs.verdict.Order.{Order}
use Rattle.history_logs.specs.declared.logs.verdict.Refusal.{Refusal}
use Rattle.history_logs.specs.declared.logs.verdict.Verdict.{Verdict}
use Rattle.history_logs.specs.declared.logs.verdict.Verdict.TheVariants as verdict
use Rattle.history_logs.specs.Logs.{IsRefusalOf, IsRightAbove, IsSeenRightly, Judged, NoneRefused, NoneRefusedAbove, RefusesIn, StepOf, StopsIn, news, services_in}
use Rattle.history_logs.specs.Orders.{IsOrderOf}
use Rattle.history_logs.specs.Seen.{Service}

-- the call has this slot, and was made where these slots wait
abbrev pub IsMadeIn : List (Option ℕ) → ℕ → ℕ → Type 0
IsMadeIn slots waiting number =
    (slot : ℕ) × HasSlot slots slot number × (bit_at waiting slot ≡ 0)

-- the calls that have the slots are some of the first ones, so many
abbrev pub AreBelow : List (Option ℕ) → ℕ → Type 0
AreBelow slots count = (slot number : ℕ) → HasSlot slots slot number → number < count

-- the call was made, and begins in this line
abbrev pub IsLineMade : List ℕ → List (Option ℕ) → ℕ → ℕ → Type 0
IsLineMade begins slots waiting k =
    (number : ℕ) × IsMadeIn slots waiting number × (slice_get begins number ≡ Some k)

-- the lines in which the calls of the slots below this one begin that were made
pub record AreLinesTo (begins : List ℕ) (slots : List (Option ℕ)) (waiting limit : ℕ)
    (lines : List ℕ) : Type 0 where
  pub made : All (IsLineMade begins slots waiting) lines
  pub each : (slot number k : ℕ) → slot < limit → HasSlot slots slot number
      → bit_at waiting slot ≡ 0 → slice_get begins number ≡ Some k → Contains lines k

-- the lines in which all calls begin that were made, each once and in rising order
pub record AreLines (begins : List ℕ) (slots : List (Option ℕ)) (waiting : ℕ) (lines : List ℕ)
    : Type 0 where
  pub made : All (IsLineMade begins slots waiting) lines
  pub each : (number k : ℕ) → IsMadeIn slots waiting number → slice_get begins number ≡ Some k
      → Contains lines k
  pub rising : IsStrictlyIncreasing lines

-- the calls that begin in the events are some of the first ones, so many
abbrev pub BeginBelow : List Event → ℕ → Type 0
BeginBelow events count =
    (index call : ℕ) → StandsAt events index (Begin call) → call < count

-- a reply in this line is refused, and this is reported of it
pub record IsRefusedIn (bytes : List ℕ) (s : Service) (k : ℕ) (reported : Refusal) : Type 0 where
  pub index : ℕ
  pub stops : StopsIn s k index stop.Refused
  pub line : reported.reply ≡ k
  pub report : IsRefusalOf bytes s index reported

-- this is found of the service in this line
abbrev pub IsFound : List ℕ → Service → ℕ → Verdict → Type 0
IsFound bytes s k (verdict.Refused reported) = IsRefusedIn bytes s k reported
IsFound bytes s k (verdict.ManyConfigs line) =
    (line ≡ k) × ((index : ℕ) × StopsIn s k index stop.ManyConfigs)
IsFound bytes s k (verdict.ManyOpen line) =
    (line ≡ k) × ((index : ℕ) × StopsIn s k index stop.ManyOpen)
IsFound bytes s k _ = ⊥

-- By all replies of the log this is found: the verdict, but that a reply may be refused already by
-- those that stand in some first lines.
abbrev pub IsFoundByAll : List ℕ → Verdict → Type 0
IsFoundByAll bytes (verdict.Refused reported) = RefusesIn bytes reported
IsFoundByAll bytes v = Judged bytes v

-- what is found of the service, and its line; none where an order explains all
abbrev pub IsFoundOf : List ℕ → Service → Option (ℕ × Verdict) → Type 0
IsFoundOf bytes s None = IsSeenRightly s
IsFoundOf bytes s (Some found) = IsFound bytes s found.0 found.1

-- what is reported by what was found of the service: the window that it ends in, where orders
-- explain all
abbrev pub IsReportOf : List ℕ → Service → FoundOf Watched → Result (Window Watched)
    (ℕ × Verdict) → Type 0
IsReportOf bytes s what (Ok window) = what ≡ found.Explained window
IsReportOf bytes s what (Err reported) = IsFound bytes s reported.0 reported.1

-- What was seen of the service is explained, and ends in the window. Where it was never cut, the
-- configurations of the window are those of all orders that explain it. Else this is found of it.
abbrev pub Explores : List ℕ → Service → Cut → Result (Window Watched) (ℕ × Verdict) → Type 0
Explores bytes s where_cut (Ok window) =
    IsSeenRightly s × (0 < length window.front.configs.items)
    × (where_cut ≡ cut.Never → IsFrontOf (StepOf s) window.front s.events (news s))
Explores bytes s where_cut (Err reported) = IsFound bytes s reported.0 reported.1

-- what is found of the service, if anything is, does not come before what is found in this line: a
-- refused reply, or a bound that is passed
abbrev pub ComesNotBefore : Bool → ℕ → Service → Type 0
ComesNotBefore true k s = NoneRefusedAbove k s
ComesNotBefore false k s = IsRightAbove k s × NoneRefused s

-- whether a reply is refused
abbrev pub is_refused : Verdict → Bool
is_refused (verdict.Refused reported) = true
is_refused _ = false

-- what is found of the service, if anything is, does not come before this, found in this line
abbrev pub IsNotBefore : ℕ → Verdict → Service → Type 0
IsNotBefore k v s = ComesNotBefore (is_refused v) k s

-- what is found of one of the services before all else; none where orders explain all
abbrev pub IsFirstFound : List ℕ → List Service → Option (ℕ × Verdict) → Type 0
IsFirstFound bytes services None = All IsSeenRightly services
IsFirstFound bytes services (Some found) =
    (s : Service) × Contains services s × IsFound bytes s found.0 found.1
    × All (IsNotBefore found.0 found.1) services

-- whether something that is found comes before another: a refused reply before a bound that is
-- passed, and else that in the line above
abbrev pub comes_before : ℕ × Verdict → ℕ × Verdict → Bool
comes_before one other =
    if is_refused one.1 then (not (is_refused other.1) || ltb one.0 other.0)
    else (not (is_refused other.1) && ltb one.0 other.0)

-- what is found before the other
abbrev pub earlier : Option (ℕ × Verdict) → Option (ℕ × Verdict) → Option (ℕ × Verdict)
earlier None other = other
earlier (Some one) None = Some one
earlier (Some one) (Some other) = if comes_before other one then Some other else Some one

-- for each service an order of the calls on it explains what was seen of it
abbrev pub AreOrdered : List Service → List Order → Type 0
AreOrdered services orders = AllZip IsOrderOf services orders

-- this is found of the services before all else
abbrev pub AreJudged : List ℕ → List Service → Option Verdict → Type 0
AreJudged bytes services None = All IsSeenRightly services
AreJudged bytes services (Some v) = (k : ℕ) × IsFirstFound bytes services (Some (k, v))

-- the verdict where orders explain all that was seen of the services, and all lines are good
abbrev pub end_verdict : List Service → Verdict
end_verdict services =
    verdict.Conforms (sum_by (λ (s : Service). length s.commands) services) (services_in services)
