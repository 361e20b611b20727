-- How configurations are gathered, put into chains by the calls that wait, and calls are made in
-- them.
use Rattle.std.specs.Prelude.{◌≡◌, ℕ, zero, suc, ◌+◌, ◌<◌, ◌≤◌, ◌⊎◌, List, [], ◌∷◌, ◌++◌, length, get_or, Bool, true, false, All, AllPairs, Option, Some, None, ◌%◌}
use Rattle.std.specs.Int.{bit_at}
use Rattle.std.specs.Global.{Vec}
use Rattle.std.specs.List.{Contains}
use Rattle.histories.specs.declared.front.Advance.{Advance}
use Rattle.histories.specs.declared.front.Advance.TheVariants as advance
use Rattle.histories.specs.declared.front.Config.{Config}
use Rattle.histories.specs.declared.front.Front.{Front}
use Rattle.histories.specs.declared.front.Link.{Link}
use Rattle.histories.specs.Frontier.{HasSlot, IsLighter, IsMade, IsSame, IsWaiting, LeadTo, MovesBefore, Path, Runs, cleared, no_path, order_of, path_more, path_of, put, read}

-- one of the configurations is the same
abbrev pub HasSame : {S : Type 0} → List (Config S) → Config S → Type 0
HasSame {S} configs config = (known : Config S) × Contains configs known × IsSame known config

-- whether one of the configurations is the same
abbrev pub IsKnown : {S : Type 0} → List (Config S) → Config S → Bool → Type 0
IsKnown configs config true = HasSame configs config
IsKnown configs config false = All (λ known. ¬ (IsSame known config)) configs

-- the call has taken a slot that was free
pub record TakesSlot (old : List (Option ℕ)) (call slot : ℕ) (new : List (Option ℕ)) : Type 0 where
  pub free : get_or old slot None ≡ None
  pub within : slot < 64
  pub has : HasSlot new slot call
  pub others : (other : ℕ) → (other ≡ slot → ⊥) → get_or new other None ≡ get_or old other None
  pub few : length new ≤ 64

-- each of the slots that there may be is taken
abbrev pub AreTaken : List (Option ℕ) → Type 0
AreTaken slots =
    (64 ≤ length slots) × ((slot : ℕ) → slot < length slots → get_or slots slot None ≡ None → ⊥)

-- the slot was made free
pub record FreesSlot (old : List (Option ℕ)) (slot : ℕ) (new : List (Option ℕ)) : Type 0 where
  pub free : get_or new slot None ≡ None
  pub others : (other : ℕ) → (other ≡ slot → ⊥) → get_or new other None ≡ get_or old other None
  pub few : length new ≡ length old

-- how many slots below this number of them are in the set
unfoldable pub ones : ℕ → ℕ → ℕ
ones set zero = 0
ones set (suc n) = bit_at set n + ones set n

-- how far an order has come, apart from where it is kept
pub record Spot (S : Type 0) : Type 0 where
  pub state : S
  pub waiting : ℕ
  pub made : Path

abbrev pub spot_of : {S : Type 0} → Config S → Spot S
spot_of config = record {
  state = config.state;
  waiting = config.waiting;
  made = path_of config;
}

-- the configuration has this state and these calls that wait
abbrev pub IsAt : {S : Type 0} → Config S → Spot S → Type 0
IsAt config spot = (config.state ≡ spot.state) × (config.waiting ≡ spot.waiting)

-- the spot has this state, these calls that wait, and this path
abbrev pub IsSpot : {S : Type 0} → S → ℕ → Path → Spot S → Type 0
IsSpot state waiting made spot =
    (spot.state ≡ state) × (spot.waiting ≡ waiting) × (spot.made ≡ made)

-- the same state, the same calls that wait, and the same that were made
abbrev pub IsCopy : {S : Type 0} → Config S → Spot S → Type 0
IsCopy config copy = IsSpot config.state config.waiting (path_of config) copy

-- the call in this slot waits too
abbrev pub IsOpened : {S : Type 0} → ℕ → Config S → Spot S → Type 0
IsOpened slot config opened =
    IsSpot config.state (put config.waiting slot) (path_of config) opened

-- as many, each of which is related to the one at its index
abbrev pub AreEach : {X : Type 0} → (X → X → Type 0) → List X → List X → Type 0
AreEach {X} R olds news =
    (length news ≡ length olds)
    × ((index : ℕ) (d : X) → index < length news → R (get_or olds index d) (get_or news index d))

-- the call in this slot waits in none of the configurations
abbrev pub WaitsInNone : {S : Type 0} → ℕ → List (Config S) → Type 0
WaitsInNone {S} slot configs =
    (index : ℕ) (d : Config S) → index < length configs
    → bit_at (get_or configs index d).waiting slot ≡ 0

-- calls that can be made and change nothing were made
pub record IsSettled {S : Type 0} (Step : S → ℕ → S → Type 0) (slots : List (Option ℕ))
    (from settled : Spot S) : Type 0 where
  pub state : settled.state ≡ from.state
  pub calls : List ℕ
  pub runs : Runs Step slots from.state from.waiting calls from.state settled.waiting
  pub lighter : IsLighter Step slots settled.waiting from.waiting
  pub made : settled.made ≡ path_more from.made calls

-- the call in the slot waits too, or was made, where it can be and changes nothing
abbrev pub IsBegun : {S : Type 0} → (S → ℕ → S → Type 0) → List (Option ℕ) → ℕ → Config S → Config S
    → Type 0
IsBegun Step slots slot config begun =
    IsSettled Step slots
    (record { state = config.state; waiting = put config.waiting slot; made = path_of config })
    (spot_of begun)

-- the call was made in the configuration, and could leave no other state; or nothing changed
abbrev pub IsMadeIn : {S : Type 0} → (S → ℕ → S → Type 0) → Config S → ℕ → Config S → Bool → Type 0
IsMadeIn Step old call new true =
    IsMade (Step old.state call) old.state new.state true
    × (path_of new ≡ path_more (path_of old) (call ∷ [])) × (new.waiting ≡ old.waiting)
IsMadeIn Step old call new false = new ≡ old

-- the call in the slot, which waits, is made, and leaves the state
abbrev pub IsNextIn : {S : Type 0} → Config S → ℕ → ℕ → S → Spot S → Type 0
IsNextIn config slot call state next =
    IsSpot state (cleared config.waiting slot) (path_more (path_of config) (call ∷ [])) next

-- the call in the slot waits and is made
abbrev pub IsNextAt : {S : Type 0} → (S → ℕ → S → Type 0) → List (Option ℕ) → Config S → ℕ → Spot S
    → Type 0
IsNextAt Step slots config slot next =
    (call : ℕ) × IsWaiting slots config.waiting slot call × Step config.state call next.state
    × (next.waiting ≡ cleared config.waiting slot)
    × (next.made ≡ path_more (path_of config) (call ∷ []))

-- the same in a slot below a number, which is not this one
abbrev pub IsNextBeside : {S : Type 0} → (S → ℕ → S → Type 0) → List (Option ℕ) → Config S → ℕ → ℕ
    → Spot S → Type 0
IsNextBeside Step slots config slot end next =
    (other : ℕ) × (other < end) × (other ≡ slot → ⊥) × IsNextAt Step slots config other next

-- a call that waits is made
abbrev pub IsNext : {S : Type 0} → (S → ℕ → S → Type 0) → List (Option ℕ) → Config S → Spot S
    → Type 0
IsNext Step slots config next =
    (slot : ℕ) × (slot < length slots) × IsNextAt Step slots config slot next

-- the call in the slot has been made, and the copy is of this configuration
abbrev pub IsDone : {S : Type 0} → ℕ → Config S → Spot S → Type 0
IsDone slot config copy = (bit_at config.waiting slot ≡ 0) × IsCopy config copy

-- the call in the slot waits, and one that waits is made, and then some that change nothing
abbrev pub IsUnderWay : {S : Type 0} → (S → ℕ → S → Type 0) → List (Option ℕ) → ℕ → Config S
    → Spot S → Type 0
IsUnderWay {S} Step slots slot config next =
    (bit_at config.waiting slot ≡ 1)
    × ((made : Spot S) × IsNext Step slots config made × IsSettled Step slots made next)

-- the call in the slot waits, and is never made
abbrev pub IsDropped : {S : Type 0} → ℕ → Config S → Spot S → Type 0
IsDropped slot config dropped =
    (bit_at config.waiting slot ≡ 1)
    × IsSpot config.state (cleared config.waiting slot) (path_of config) dropped

-- the call has a slot that is not the other one, and waits
abbrev pub IsBeside : List (Option ℕ) → ℕ → ℕ → ℕ → ℕ → Type 0
IsBeside slots waiting slot at call = (at ≡ slot → ⊥) × IsWaiting slots waiting at call

-- the call in the slot moves before all others that wait
abbrev pub MovesFirst : {S : Type 0} → (S → ℕ → S → Type 0) → List (Option ℕ) → ℕ → ℕ → Type 0
MovesFirst Step slots slot waiting =
    (call : ℕ) × HasSlot slots slot call
    × ((at other : ℕ) → IsBeside slots waiting slot at other → MovesBefore Step call other)

-- no call that waits can be made but that in the slot
abbrev pub IsAlone : {S : Type 0} → (S → ℕ → S → Type 0) → List (Option ℕ) → Config S → ℕ → Type 0
IsAlone {S} Step slots config slot =
    (at other : ℕ) (new : S) → IsBeside slots config.waiting slot at other
    → ¬ (Step config.state other new)

-- the call in the slot is made first of those that wait, or moves before them
abbrev pub ComesFirst : {S : Type 0} → (S → ℕ → S → Type 0) → List (Option ℕ) → Config S → ℕ
    → Type 0
ComesFirst Step slots config slot =
    MovesFirst Step slots slot config.waiting ⊎ IsAlone Step slots config slot

-- the call in the slot waited and came first, and was made, and could leave no other state; or
-- nothing changed
abbrev pub IsMadeFirst : {S : Type 0} → (S → ℕ → S → Type 0) → List (Option ℕ) → ℕ → ℕ → Config S
    → Config S → Bool → Type 0
IsMadeFirst Step slots slot call old new true =
    (bit_at old.waiting slot ≡ 1) × ComesFirst Step slots old slot
    × IsMade (Step old.state call) old.state new.state true
    × (path_of new ≡ path_more (path_of old) (call ∷ []))
    × (new.waiting ≡ cleared old.waiting slot)
IsMadeFirst Step slots slot call old new false = new ≡ old

-- it is true of one of these and of that
abbrev pub FromOne : {X S : Type 0} → (X → Spot S → Type 0) → List X → Spot S → Type 0
FromOne {X} Fact values spot = (value : X) × Contains values value × Fact value spot

-- the new ones are the old ones, and others of which this is true; each is there once
pub record Adds {S : Type 0} (Fact : Spot S → Type 0) (old new : List (Config S)) : Type 0 where
  pub sound : (config : Config S) → Contains new config
      → Contains old config ⊎ Fact (spot_of config)
  pub kept : (config : Config S) → Contains old config → Contains new config
  pub longer : (count : ℕ) → count < length old → count < length new
  pub once : AllPairs (λ a b. ¬ (IsSame a b)) old → AllPairs (λ a b. ¬ (IsSame a b)) new

-- those that are found are added, but for those that are there already
pub record Gathers {S : Type 0} (Found : Spot S → Type 0) (old new : List (Config S)) : Type 0
  where
    pub adds : Adds Found old new
    pub complete : (spot : Spot S) → Found spot
        → (known : Config S) × Contains new known × IsAt known spot

-- The same, where calls that change nothing are made in those that are found. Once the new ones are
-- too many, others need not be there.
pub record Settles {S : Type 0} (Step : S → ℕ → S → Type 0) (slots : List (Option ℕ))
    (Found : Spot S → Type 0) (old new : List (Config S)) : Type 0 where
  pub adds : Adds (λ settled. (spot : Spot S) × Found spot × IsSettled Step slots spot settled)
      old new
  pub complete : ¬ (4096 < length new) → (spot : Spot S) → Found spot
      → (known : Config S) × Contains new known × (known.state ≡ spot.state)
      × IsLighter Step slots known.waiting spot.waiting

-- Those are added to which one more call leads from one of these, in which the call in the slot
-- waits. What calls lead to from there, the call among them, is led to from the new ones, where
-- these are not too many.
pub record GoesOn {S : Type 0} (Step : S → ℕ → S → Type 0) (slots : List (Option ℕ)) (slot : ℕ)
    (layer old new : List (Config S)) : Type 0 where
  pub adds : Adds (FromOne (IsUnderWay Step slots slot) layer) old new
  pub complete : ¬ (4096 < length new)
      → (config : Config S) (calls : List ℕ) (last : S) (fewer rest : ℕ)
      → Contains layer config → bit_at config.waiting slot ≡ 1 → bit_at fewer slot ≡ 0
      → Runs Step slots config.state config.waiting calls last fewer
      → IsLighter Step slots fewer rest → LeadTo Step slots new last rest

-- calls that waited in one of the configurations were made
abbrev pub IsMadeFrom : {S : Type 0} → (S → ℕ → S → Type 0) → List (Option ℕ) → List (Config S)
    → Spot S → Type 0
IsMadeFrom {S} Step slots configs next =
    (config : Config S) × Contains configs config
    × ((calls : List ℕ) × Runs Step slots config.state config.waiting calls next.state next.waiting
    × (next.made ≡ path_more (path_of config) calls))

-- what some calls lead to, the call in the slot among them, is led to from those done or under way
abbrev pub GoesFrom : {S : Type 0} → (S → ℕ → S → Type 0) → List (Option ℕ) → List (Config S) → ℕ
    → List (Config S) → List (Config S) → Type 0
GoesFrom {S} Step slots configs slot done layer =
    (new : S) (rest : ℕ) → LeadTo Step slots configs new rest → bit_at rest slot ≡ 0
    → LeadTo Step slots done new rest ⊎ LeadTo Step slots layer new rest

-- The call in the slot is made: of those that are done each has come from a configuration, and the
-- call does not wait there. What some calls lead to, the call among them, is still led to from
-- those done, or from those under way, in each of which fewer calls wait, where these are not too
-- many.
pub record IsClosing {S : Type 0} (Step : S → ℕ → S → Type 0) (slots : List (Option ℕ))
    (configs : List (Config S)) (slot : ℕ) (done layer : List (Config S)) (left : ℕ) : Type 0 where
  pub sound : (config : Config S) → Contains done config
      → IsMadeFrom Step slots configs (spot_of config) × (bit_at config.waiting slot ≡ 0)
  pub under_way : (config : Config S) → Contains layer config
      → IsMadeFrom Step slots configs (spot_of config)
  pub complete : ¬ (4096 < length layer) → GoesFrom Step slots configs slot done layer
  pub short : (config : Config S) → Contains layer config
      → ones config.waiting (length slots) < left
  pub once : AllPairs (λ a b. ¬ (IsSame a b)) done

-- the same once none is under way
pub record IsClosed {S : Type 0} (Step : S → ℕ → S → Type 0) (slots : List (Option ℕ))
    (configs : List (Config S)) (slot : ℕ) (done : List (Config S)) : Type 0 where
  pub sound : (config : Config S) → Contains done config
      → IsMadeFrom Step slots configs (spot_of config) × (bit_at config.waiting slot ≡ 0)
  pub complete : (new : S) (rest : ℕ) → LeadTo Step slots configs new rest → bit_at rest slot ≡ 0
      → LeadTo Step slots done new rest
  pub once : AllPairs (λ a b. ¬ (IsSame a b)) done

-- the call in the slot is made in each, where each was there once, or nothing changed
abbrev pub IsClosedInPlace : {S : Type 0} → (S → ℕ → S → Type 0) → List (Option ℕ) → ℕ
    → List (Config S) → List (Config S) → Bool → Type 0
IsClosedInPlace Step slots slot old new true =
    AllPairs (λ a b. ¬ (IsSame a b)) old → IsClosed Step slots old slot new
IsClosedInPlace Step slots slot old new false = new ≡ old

-- an order of no calls has come to the spot from this state
abbrev pub IsFirst : {S : Type 0} → S → Spot S → Type 0
IsFirst old spot = IsSpot old 0 no_path spot

-- there are these links, and others after them
abbrev pub Grows : List Link → List Link → Type 0
Grows links more = (others : List Link) × (more ≡ links ++ others)

-- the calls stand in the links, after those up to the first number, and end at the second one
abbrev pub IsLaidOut : List Link → ℕ → List ℕ → List Link → ℕ → Type 0
IsLaidOut links base calls more last =
    Grows links more
    × (base ≤ length links → (last ≤ length more) × (read more last ≡ read links base ++ calls))

-- the same configuration, with the same order in more links
abbrev pub IsLaid : {S : Type 0} → List Link → List Link → Config S → Config S → Type 0
IsLaid links more config laid =
    (laid.state ≡ config.state) × (laid.waiting ≡ config.waiting) × Grows links more
    × (config.base ≤ length links
    → (laid.base ≤ length more) × (order_of more laid ≡ order_of links config))

-- the same configurations, each at its index, with the same orders in more links
abbrev pub AreLaid : {S : Type 0} → List Link → List Link → List (Config S) → List (Config S)
    → Type 0
AreLaid links more configs laid =
    Grows links more × AreEach (IsLaid links more) configs laid

-- the same configuration, with an order of no calls
abbrev pub IsUnlinked : {S : Type 0} → Config S → Config S → Type 0
IsUnlinked config unlinked =
    (unlinked.state ≡ config.state) × (unlinked.waiting ≡ config.waiting)
    × (path_of unlinked ≡ no_path)

-- more configurations than are followed, each there once, to which calls that waited lead
abbrev pub HasMany : {S : Type 0} → (S → ℕ → S → Type 0) → List (Option ℕ) → List (Config S) →
    Type 0
HasMany {S} Step slots configs =
    (many : List (Config S)) × (4096 < length many) × AllPairs (λ a b. ¬ (IsSame a b)) many
    × ((config : Config S) → Contains many config → IsMadeFrom Step slots configs (spot_of config))

-- the call in the slot is made, or there are too many configurations
abbrev pub IsCloseOutcome : {S : Type 0} → (S → ℕ → S → Type 0) → List (Option ℕ) → List (Config S)
    → ℕ → Option (Vec (Config S)) → Type 0
IsCloseOutcome Step slots configs slot (Some done) = IsClosed Step slots configs slot done.items
IsCloseOutcome Step slots configs slot None = HasMany Step slots configs

-- what was done, by the configurations that are left
abbrev pub IsLeft : {S : Type 0} → List (Config S) → Advance → Type 0
IsLeft configs advance.Done = 0 < length configs
IsLeft configs advance.Refused = length configs ≡ 0
IsLeft configs advance.ManyConfigs = ⊥
IsLeft configs advance.ManyOpen = ⊥
IsLeft configs advance.NoEvent = ⊥

-- the calls that were made in these configurations went into the links, and are those of the front
abbrev pub AreLaidIn : {S : Type 0} → List Link → List (Config S) → Front S → Advance → Type 0
AreLaidIn links configs new result =
    AreLaid links new.links.items configs new.configs.items × IsLeft new.configs.items result

-- the same of the front's own configurations, and the slots stay
abbrev pub LaysOut : {S : Type 0} → Front S → Front S → Advance → Type 0
LaysOut old new result =
    (new.slots ≡ old.slots) × AreLaidIn old.links.items old.configs.items new result

-- the slot was made free, and these configurations are left, or too many
abbrev pub Finishes : {S : Type 0} → Front S → ℕ → List (Config S) → Front S → Advance → Type 0
Finishes old slot configs new result =
    FreesSlot old.slots.items slot new.slots.items
    × (((4096 < length configs) × (result ≡ advance.ManyConfigs))
    ⊎ AreLaidIn old.links.items configs new result)

-- the chain of a configuration, by the calls that wait and the state
abbrev pub chain_of : {S : Type 0} → (S → ℕ) → Config S → ℕ
chain_of hash config = (config.waiting % 1021 + hash config.state % 1021) % 1021

-- the chain of the configuration at an index
abbrev pub chain_at : {S : Type 0} → (S → ℕ) → List (Config S) → Config S → ℕ → ℕ
chain_at hash configs d index = chain_of hash (get_or configs index d)

-- Indices below the length of `before` are in chains. The head of a chain is above each of its
-- indices, and one above the last of them. What `before` has at an index is above each
-- earlier index of its chain, and one above the last of these.
pub record AreLinked (chain : ℕ → ℕ) (heads before : List ℕ) : Type 0 where
  pub reached : (index : ℕ) → index < length before → index < get_or heads (chain index) 0
  pub head : (number index : ℕ) → get_or heads number 0 ≡ index + 1
      → (index < length before) × (chain index ≡ number)
  pub kept : (index at : ℕ) → index < at → at < length before → chain index ≡ chain at
      → index < get_or before at 0
  pub link : (at index : ℕ) → at < length before → get_or before at 0 ≡ index + 1
      → (index < at) × (chain index ≡ chain at)

-- the first configurations are in chains
abbrev pub AreChained : {S : Type 0} → (S → ℕ) → List (Config S) → List ℕ → List ℕ → Type 0
AreChained {S} hash configs heads before =
    (length before ≤ length configs)
    × ((d : Config S) → AreLinked (chain_at hash configs d) heads before)

-- the configurations between two indices are others than this one
abbrev pub AreOther : {S : Type 0} → List (Config S) → ℕ → ℕ → Config S → Type 0
AreOther {S} configs from end config =
    (index : ℕ) (d : Config S) → from ≤ index → index < end
    → ¬ (IsSame (get_or configs index d) config)
