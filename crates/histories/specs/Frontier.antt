-- The configurations that are followed.
use Rattle.std.specs.Prelude.{◌≡◌, ℕ, ◌+◌, ◌*◌, ◌^◌, ◌%◌, ◌<◌, ◌≤◌, ◌⊎◌, ◌↔◌, List, [], ◌∷◌, ◌++◌, length, get_or, AllPairs, Bool, true, false, Option, Some, None, bit_and, bit_or}
use Rattle.std.specs.Int.{bit_at, bit_not, w64}
use Rattle.std.specs.List.{Contains}
use Rattle.histories.specs.declared.front.Event.{Event}
use Rattle.histories.specs.declared.front.Config.{Config}
use Rattle.histories.specs.declared.front.Link.{Link}
use Rattle.histories.specs.declared.front.Front.{Front}
use Rattle.histories.specs.declared.machine.Left.{Left}
use Rattle.histories.specs.declared.machine.Left.TheVariants as left
use Rattle.histories.specs.Histories.{AreAll, begins, times, Explains, HasEnded, IsOpen}

-- the set without the slot, and with it
unfoldable pub cleared : ℕ → ℕ → ℕ
cleared set slot = bit_and set (bit_not w64 (1 * 2 ^ slot % 2 ^ 64))

unfoldable pub put : ℕ → ℕ → ℕ
put set slot = bit_or set (1 * 2 ^ slot % 2 ^ 64)

-- the call has this slot
abbrev pub HasSlot : List (Option ℕ) → ℕ → ℕ → Type 0
HasSlot slots slot call = get_or slots slot None ≡ Some call

-- the calls that are open have the slots, each one of them, and at most 64 are there
pub record IsTable (events : List Event) (slots : List (Option ℕ)) : Type 0 where
  pub each : (slot call : ℕ) → HasSlot slots slot call → IsOpen events call
  pub all : (call : ℕ) → IsOpen events call → (slot : ℕ) × HasSlot slots slot call
  pub apart : (one other call : ℕ) → HasSlot slots one call → HasSlot slots other call
      → one ≡ other
  pub few : length slots ≤ 64

-- the same state, with the same calls that wait
abbrev pub IsSame : {S : Type 0} → Config S → Config S → Type 0
IsSame a b = (a.state ≡ b.state) × (a.waiting ≡ b.waiting)

-- the call has this slot, and waits
abbrev pub IsWaiting : List (Option ℕ) → ℕ → ℕ → ℕ → Type 0
IsWaiting slots waiting slot call = HasSlot slots slot call × (bit_at waiting slot ≡ 1)

-- waiting calls are made, one after the other, and leave the new state and the rest waiting
abbrev pub Runs : {S : Type 0} → (S → ℕ → S → Type 0) → List (Option ℕ) → S → ℕ → List ℕ → S → ℕ
    → Type 0
Runs Step slots old waiting [] new rest = (new ≡ old) × (rest ≡ waiting)
Runs {S} Step slots old waiting (call ∷ calls) new rest =
    (slot : ℕ) × IsWaiting slots waiting slot call
    × ((mid : S) × Step old call mid × Runs Step slots mid (cleared waiting slot) calls new rest)

-- the call changes nothing, in whatever state it is made
abbrev pub IsIdle : {S : Type 0} → (S → ℕ → S → Type 0) → ℕ → Type 0
IsIdle {S} Step call = (old new : S) → Step old call new → new ≡ old

-- the first call, wherever it can be made right after the second, can be made right before it, and
-- both leave the same
abbrev pub MovesBefore : {S : Type 0} → (S → ℕ → S → Type 0) → ℕ → ℕ → Type 0
MovesBefore {S} Step call other =
    (old mid new : S) → Step old other mid → Step mid call new
    → (between : S) × Step old call between × Step between other new

-- the states that a call may leave
abbrev pub states_in : {S : Type 0} → Left S → List S
states_in left.Nothing = []
states_in (left.One state) = state ∷ []
states_in (left.All states) = states.items

-- a call that leaves such states was made, and could leave no other one; or nothing changed
abbrev pub IsMade : {S : Type 0} → (S → Type 0) → S → S → Bool → Type 0
IsMade Left old new true = AreAll Left (new ∷ [])
IsMade Left old new false = new ≡ old

-- the same calls wait, but for some that change nothing, which wait in the second set alone
abbrev pub IsLighter : {S : Type 0} → (S → ℕ → S → Type 0) → List (Option ℕ) → ℕ → ℕ → Type 0
IsLighter Step slots fewer waiting =
    (slot call : ℕ) → HasSlot slots slot call
    → (bit_at fewer slot ≡ bit_at waiting slot) ⊎ ((bit_at fewer slot ≡ 0) × IsIdle Step call)

-- calls that wait in one of the configurations lead from it to the new state, and leave the rest
-- waiting, but for calls that change nothing, which may have been made before
abbrev pub LeadTo : {S : Type 0} → (S → ℕ → S → Type 0) → List (Option ℕ) → List (Config S) → S → ℕ
    → Type 0
LeadTo {S} Step slots configs new rest =
    (config : Config S) × Contains configs config
    × ((calls : List ℕ) × (fewer : ℕ) × Runs Step slots config.state config.waiting calls new fewer
    × IsLighter Step slots fewer rest)

-- of the calls that are open, each stands in the order or waits
abbrev pub Leaves : List (Option ℕ) → List ℕ → ℕ → Type 0
Leaves slots order waiting =
    (slot call : ℕ) → HasSlot slots slot call → times call order + bit_at waiting slot ≡ 1

-- each slot of the set is that of a call
abbrev pub HaveCalls : List (Option ℕ) → ℕ → Type 0
HaveCalls slots set = (slot : ℕ) → bit_at set slot ≡ 1 → (call : ℕ) × HasSlot slots slot call

-- the order that ends at each link, after those that are known: each has the calls of the order
-- before it, and then its own
unfoldable pub orders : List (List ℕ) → List Link → List (List ℕ)
orders known [] = known
orders known (link ∷ links) =
    orders (known ++ (get_or known link.before [] ++ link.call ∷ []) ∷ []) links

-- the order that is read from the links up to a number of them: of none it is empty
unfoldable pub read : List Link → ℕ → List ℕ
read links base = get_or (orders ([] ∷ []) links) base []

-- the calls of the links up to a number of them, and after them these
pub record Path : Type 0 where
  pub base : ℕ
  pub calls : List ℕ

abbrev pub path_of : {S : Type 0} → Config S → Path
path_of config = record { base = config.base; calls = config.made.items }

-- some calls more
abbrev pub path_more : Path → List ℕ → Path
path_more path more = record { base = path.base; calls = path.calls ++ more }

abbrev pub no_path : Path
no_path = record { base = 0; calls = [] }

-- the order that is read from the links and goes on with these calls
abbrev pub order_at : List Link → Path → List ℕ
order_at links path = read links path.base ++ path.calls

-- the order of a configuration
abbrev pub order_of : {S : Type 0} → List Link → Config S → List ℕ
order_of links config = order_at links (path_of config)

-- the calls that were made, in their order, explain the history from one of the old states, and the
-- other calls that are open wait, and nothing else
pub record IsFollowed {S : Type 0} (Step : S → ℕ → S → Type 0) (links : List Link)
    (slots : List (Option ℕ)) (events : List Event) (olds : List S) (config : Config S) : Type 0
  where
    pub old : S
    pub from : Contains olds old
    pub explains : Explains Step events old (order_of links config) config.state
    pub leaves : Leaves slots (order_of links config) config.waiting
    pub only : HaveCalls slots config.waiting
    pub within : config.base ≤ length links

-- each configuration is that of an order that explains the history
abbrev pub AreSound : {S : Type 0} → (S → ℕ → S → Type 0) → List Link → List (Option ℕ)
    → List Event → List S → List (Config S) → Type 0
AreSound {S} Step links slots events olds configs =
    (config : Config S) → Contains configs config → IsFollowed Step links slots events olds config

-- Each order that explains the history is that of a configuration in which some of the calls that
-- wait are made after it; calls that change nothing may have been made before.
abbrev pub AreComplete : {S : Type 0} → (S → ℕ → S → Type 0) → List (Option ℕ) → List Event
    → List S → List (Config S) → Type 0
AreComplete {S} Step slots events olds configs =
    (old : S) (order : List ℕ) (new : S) → Contains olds old → Explains Step events old order new
    → (rest : ℕ) × Leaves slots order rest × LeadTo Step slots configs new rest

-- The configurations are those of the orders that explain the history. Each stands there once.
pub record IsFrontier {S : Type 0} (Step : S → ℕ → S → Type 0) (links : List Link)
    (slots : List (Option ℕ)) (events : List Event) (olds : List S) (configs : List (Config S))
    : Type 0 where
  pub sound : AreSound Step links slots events olds configs
  pub complete : AreComplete Step slots events olds configs
  pub once : AllPairs (λ a b. ¬ (IsSame a b)) configs
  pub table : IsTable events slots

-- the same of a front
abbrev pub IsFrontOf : {S : Type 0} → (S → ℕ → S → Type 0) → Front S → List Event → List S → Type 0
IsFrontOf Step front events olds =
    IsFrontier Step front.links.items front.slots.items events olds front.configs.items

-- each call begins once, and one that has ended began
pub record IsSound (events : List Event) : Type 0 where
  pub once : (call : ℕ) → begins call events ≤ 1
  pub begun : (call : ℕ) → HasEnded events call → 0 < begins call events

-- more configurations than are followed, each there once, of orders that explain the history
abbrev pub HasManyOrders : {S : Type 0} → (S → ℕ → S → Type 0) → List Event → List S → Type 0
HasManyOrders {S} Step events olds =
    (links : List Link) × (slots : List (Option ℕ)) × (many : List (Config S))
    × (4096 < length many) × AllPairs (λ a b. ¬ (IsSame a b)) many × IsTable events slots
    × AreSound Step links slots events olds many

-- 65 calls are open, one more than are followed
abbrev pub HasManyOpen : List Event → Type 0
HasManyOpen events =
    (calls : List ℕ) × (length calls ≡ 65) × ((call : ℕ) → times call calls ≤ 1)
    × ((call : ℕ) → (0 < times call calls) ↔ IsOpen events call)
