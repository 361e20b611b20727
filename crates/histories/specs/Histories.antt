-- Histories of calls that overlapped, the orders that explain them, and what holds of all.
use Rattle.std.specs.Prelude.{◌≡◌, ◌≢◌, ℕ, ◌+◌, ◌<◌, ◌≤◌, ◌⊎◌, List, [], ◌∷◌, length, take, cond, eqb, Some, All, AllPairs, slice_get, ◌↔◌, zero, suc, ◌++◌}
use Rattle.std.specs.List.{Contains}
use Rattle.histories.specs.declared.front.Event.{Event}
use Rattle.histories.specs.declared.front.Event.TheVariants.{Begin, End, Crash}

-- the list has each value that the fact is true of, and no other
abbrev pub AreAll : {S : Type 0} → (S → Type 0) → List S → Type 0
AreAll {S} Fact values = All Fact values × ((value : S) → Fact value → Contains values value)

-- it is true of each value in the list, and each is there once; these are all, or more than
-- configurations are followed
abbrev pub AreEnough : {S : Type 0} → (S → Type 0) → List S → Type 0
AreEnough {S} Fact values =
    All Fact values × AllPairs (λ a b. a ≢ b) values
    × (((value : S) → Fact value → Contains values value) ⊎ (4096 < length values))

-- how often the number stands in the list
unfoldable pub times : ℕ → List ℕ → ℕ
times number [] = 0
times number (x ∷ xs) = cond (eqb x number) 1 0 + times number xs

-- how often the call begins
unfoldable pub begins : ℕ → List Event → ℕ
begins call [] = 0
begins call (Begin begun ∷ events) = cond (eqb begun call) 1 0 + begins call events
begins call (End ended ∷ events) = begins call events
begins call (Crash crashed ∷ events) = begins call events

-- how many calls begin
unfoldable pub begun : List Event → ℕ
begun [] = 0
begun (Begin call ∷ events) = 1 + begun events
begun (End call ∷ events) = begun events
begun (Crash call ∷ events) = begun events

-- the event stands at this index
abbrev pub StandsAt : List Event → ℕ → Event → Type 0
StandsAt events index event = slice_get events index ≡ Some event

-- the call was answered
abbrev pub IsAnswered : List Event → ℕ → Type 0
IsAnswered events call = (index : ℕ) × StandsAt events index (End call)

-- the call is over from this index on: it was answered, or its caller crashed
abbrev pub EndsAt : List Event → ℕ → ℕ → Type 0
EndsAt events index call =
    StandsAt events index (End call) ⊎ StandsAt events index (Crash call)

abbrev pub HasEnded : List Event → ℕ → Type 0
HasEnded events call = (index : ℕ) × EndsAt events index call

-- the call is open: it has begun, and has not ended
abbrev pub IsOpen : List Event → ℕ → Type 0
IsOpen events call = (0 < begins call events) × (¬ (HasEnded events call))

-- the first call was over when the second began: its end stands before the begin of the second
abbrev pub IsOver : List Event → ℕ → ℕ → Type 0
IsOver events first second =
    (ended : ℕ) × (begun : ℕ) × (ended < begun) × EndsAt events ended first
    × StandsAt events begun (Begin second)

-- the calls lead from the old state to the new one, one after the other
abbrev pub Leads : {S : Type 0} → (S → ℕ → S → Type 0) → S → List ℕ → S → Type 0
Leads Step old [] new = new ≡ old
Leads {S} Step old (call ∷ calls) new =
    (mid : S) × Step old call mid × Leads Step mid calls new

-- The order explains the history: it has calls that have begun, each once. All that were answered
-- are among them. No call stands before one that was over when it began. The calls lead, one after
-- the other, from the old state to the new one.
pub record Explains {S : Type 0} (Step : S → ℕ → S → Type 0) (events : List Event) (old : S)
    (order : List ℕ) (new : S) : Type 0 where
  pub once : (call : ℕ) → times call order ≤ 1
  pub begun : (call : ℕ) → 0 < times call order → 0 < begins call events
  pub answered : (call : ℕ) → IsAnswered events call → 0 < times call order
  pub real_time : AllPairs (λ first second. ¬ (IsOver events second first)) order
  pub leads : Leads Step old order new

-- an order of calls explains the history from one of the old states
abbrev pub IsExplained : {S : Type 0} → (S → ℕ → S → Type 0) → List Event → List S → Type 0
IsExplained {S} Step events olds =
    (old : S) × (order : List ℕ) × (new : S) × Contains olds old
    × Explains Step events old order new

-- an order that explains the history leads from one of the old states to this one
abbrev pub IsLedTo : {S : Type 0} → (S → ℕ → S → Type 0) → List Event → List S → S → Type 0
IsLedTo {S} Step events olds new =
    (old : S) × (order : List ℕ) × Contains olds old × Explains Step events old order new

-- the event may come next: calls are numbered by their begins, and one that is open ends
abbrev pub MayFollow : List Event → Event → Type 0
MayFollow events (Begin call) = call ≡ begun events
MayFollow events (End call) = IsOpen events call
MayFollow events (Crash call) = IsOpen events call

-- each event may follow those before it
abbrev pub IsHistory : List Event → Type 0
IsHistory events =
    (index : ℕ) (event : Event) → StandsAt events index event
    → MayFollow (take index events) event

-- so many calls, each of which ends before the next one begins
unfoldable pub calls_alone : ℕ → List Event
calls_alone zero = []
calls_alone (suc count) = calls_alone count ++ Begin count ∷ End count ∷ []

-- the calls by rising number
unfoldable pub in_order : ℕ → List ℕ
in_order zero = []
in_order (suc count) = in_order count ++ count ∷ []

-- Calls that overlap nothing are a run: one order alone explains them, that in which they were
-- made, and it leads where they lead one after the other.
abbrev pub CallsAloneAreRuns : {S : Type 0} → (S → ℕ → S → Type 0) → Type 0
CallsAloneAreRuns {S} Step =
    (count : ℕ) (old new : S) (order : List ℕ)
    → Explains Step (calls_alone count) old order new
    ↔ ((order ≡ in_order count) × Leads Step old (in_order count) new)
