-- What events do to a front, where it begins anew, and what a search finds.
use Rattle.std.specs.Prelude.{◌≡◌, ℕ, ◌<◌, ◌⊎◌, ◌↔◌, AllPairs, List, [], ◌∷◌, ◌++◌, length, Bool, true, false, Option, Some, None}
use Rattle.std.specs.List.{Contains}
use Rattle.histories.specs.declared.front.Event.{Event}
use Rattle.histories.specs.declared.front.Event.TheVariants.{Begin, End, Crash}
use Rattle.histories.specs.declared.front.Advance.{Advance}
use Rattle.histories.specs.declared.front.Advance.TheVariants as advance
use Rattle.histories.specs.declared.front.Config.{Config}
use Rattle.histories.specs.declared.front.Front.{Front}
use Rattle.histories.specs.Histories.{IsOpen, begins, HasEnded, IsExplained, IsLedTo}
use Rattle.histories.specs.Frontier.{HasManyOpen, HasManyOrders, IsFrontOf, IsSame, IsSound}
use Rattle.histories.specs.Gathering.{Finishes, IsClosed}

-- of the calls that are open, the machine makes each as the history has it
abbrev pub Agrees : {S : Type 0} → (S → ℕ → S → Type 0) → (S → ℕ → S → Type 0) → List Event → Type 0
Agrees {S} Made Step events =
    (call : ℕ) → IsOpen events call → (old new : S) → Made old call new ↔ Step old call new

-- the call ends with this event
abbrev pub Ends : Event → ℕ → Type 0
Ends event call = (event ≡ End call) ⊎ (event ≡ Crash call)

-- a call that ends with this event is open
abbrev pub EndsOpen : List Event → Event → Type 0
EndsOpen events event = (call : ℕ) → Ends event call → IsOpen events call

-- Done, Refused: the configurations are those after one event more; there are some, or none.
-- ManyConfigs: orders that explain the events before this one, or those up to it, lead to more than
-- 4,096 configurations.
-- ManyOpen: 65 calls are open after this event.
-- NoEvent: the call that ends is not open.
abbrev pub AdvancesIn : {S : Type 0} → (S → ℕ → S → Type 0) → List Event → List S → Event → Front S
    → Advance → Type 0
AdvancesIn Step events olds event new advance.Done =
    IsFrontOf Step new (events ++ event ∷ []) olds × (0 < length new.configs.items)
    × EndsOpen events event
AdvancesIn Step events olds event new advance.Refused =
    IsFrontOf Step new (events ++ event ∷ []) olds × (length new.configs.items ≡ 0)
    × EndsOpen events event
AdvancesIn Step events olds event new advance.ManyConfigs =
    HasManyOrders Step events olds ⊎ HasManyOrders Step (events ++ event ∷ []) olds
AdvancesIn Step events olds event new advance.ManyOpen = HasManyOpen (events ++ event ∷ [])
AdvancesIn Step events olds event new advance.NoEvent = ¬ (EndsOpen events event)

-- The same of each history that the old front is of, where a call that begins is new in it. The
-- machine that is used need have those calls alone that are open; a whole one has all.
abbrev pub IsAdvance : {M S : Type 0} → (M → S → ℕ → S → Type 0) → M → Front S → Event → Front S
    → Advance → Type 0
IsAdvance {M} {S} Step machine old event new result =
    (whole : M) (events : List Event) (olds : List S)
    → Agrees (Step machine) (Step whole) events
    → Agrees (Step machine) (Step whole) (events ++ event ∷ [])
    → IsSound events → ((call : ℕ) → event ≡ Begin call → begins call events ≡ 0)
    → IsFrontOf (Step whole) old events olds
    → AdvancesIn (Step whole) events olds event new result

-- the same slots, configurations and links
abbrev pub IsSameFront : {S : Type 0} → Front S → Front S → Type 0
IsSameFront old new =
    (new.slots.items ≡ old.slots.items) × (new.configs.items ≡ old.configs.items)
    × (new.links.items ≡ old.links.items)

-- the call in the slot was made, where each configuration was there once, and this was done; or
-- nothing changed
abbrev pub EndsInPlace : {S : Type 0} → (S → ℕ → S → Type 0) → Front S → ℕ → Front S
    → Option Advance → Type 0
EndsInPlace {S} Step old slot new (Some done) =
    (closed : List (Config S))
    × (AllPairs (λ a b. ¬ (IsSame a b)) old.configs.items
    → IsClosed Step old.slots.items old.configs.items slot closed)
    × Finishes old slot closed new done
EndsInPlace Step old slot new None = IsSameFront old new

-- A call overlaps nothing: it begins, and is answered next. It was made, and the configurations are
-- those after both events: there are some. Or nothing changed.
abbrev pub IsMadeAlone : {M S : Type 0} → (M → S → ℕ → S → Type 0) → M → Front S → ℕ → Front S
    → Bool → Type 0
IsMadeAlone {M} {S} Step machine old call new true =
    (whole : M) (events : List Event) (olds : List S)
    → Agrees (Step machine) (Step whole) (events ++ Begin call ∷ [])
    → IsSound events → begins call events ≡ 0
    → IsFrontOf (Step whole) old events olds
    → IsFrontOf (Step whole) new (events ++ Begin call ∷ End call ∷ []) olds
    × (0 < length new.configs.items)
IsMadeAlone Step machine old call new false = IsSameFront old new

-- no call is open
abbrev pub IsQuiet : List Event → Type 0
IsQuiet events = (call : ℕ) → 0 < begins call events → HasEnded events call

-- The history is cut after these events: no call is open, and the states are those that orders lead
-- to. What comes next is judged from these alone: an order explains all exactly where one explains
-- what comes next from one of these states.
pub record IsCut {S : Type 0} (Step : S → ℕ → S → Type 0) (olds : List S) (past : List Event)
    (states : List S) : Type 0 where
  pub quiet : IsQuiet past
  pub led : (state : S) → Contains states state ↔ IsLedTo Step past olds state
  pub same : (rest : List Event) → IsSound rest → IsSound (past ++ rest)
      → IsExplained Step (past ++ rest) olds ↔ IsExplained Step rest states

-- Where no call is open, the history is cut, and a new front begins with the states that are left.
-- Else a call is open, and the front stays.
abbrev pub BeginsAnew : {S : Type 0} → (S → ℕ → S → Type 0) → Front S → Front S → Bool → Type 0
BeginsAnew {S} Step old new true =
    (events : List Event) (olds : List S) → IsSound events → IsFrontOf Step old events olds
    → (states : List S) × IsCut Step olds events states × IsFrontOf Step new [] states
BeginsAnew {S} Step old new false =
    (new ≡ old)
    × ((events : List Event) (olds : List S) → IsFrontOf Step old events olds
    → (call : ℕ) × IsOpen events call)
