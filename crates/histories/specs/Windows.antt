-- Windows of histories, what is found of a history, which calls are needed for it, and fronts that
-- go on while replies are still to come.
use Rattle.std.specs.Prelude.{◌≡◌, ℕ, ◌+◌, ◌<◌, ◌≤◌, ◌⊎◌, ◌↔◌, List, ◌++◌, get_or, length, take, true, false, Bool, not, filter, map}
use Rattle.std.specs.List.{Contains}
use Rattle.histories.specs.declared.front.Event.{Event}
use Rattle.histories.specs.declared.front.Event.TheVariants.{End, Begin, Crash}
use Rattle.histories.specs.declared.front.Config.{Config}
use Rattle.histories.specs.declared.front.Front.{Front}
use Rattle.histories.specs.Advances.{BeginsAnew, IsCut, IsQuiet, EndsOpen, IsMadeAlone, IsSameFront}
use Rattle.histories.specs.Histories.{Explains, IsExplained, IsHistory, StandsAt, begins, begun, IsOpen}
use Rattle.histories.specs.Frontier.{HasManyOpen, HasManyOrders, IsFrontOf, IsSound, order_of, IsIdle}
use Rattle.histories.specs.declared.window.Cut.{Cut}
use Rattle.histories.specs.declared.window.Stop.{Stop}
use Rattle.histories.specs.declared.window.Verdict.{Verdict}
use Rattle.histories.specs.declared.window.Window.{Window}
use Rattle.histories.specs.declared.window.Cut.TheVariants as cut
use Rattle.histories.specs.declared.window.Stop.TheVariants as stop
use Rattle.histories.specs.declared.window.Verdict.TheVariants as verdict

-- The window that the events end in: its configurations are those of the orders that explain what
-- comes in it, from the states that were left where it begins. There is one at least.
pub record IsWindowOf {S : Type 0} (Step : S → ℕ → S → Type 0) (olds : List S)
    (events : List Event) (window : Window S) : Type 0 where
  pub past : List Event
  pub inside : List Event
  pub split : events ≡ past ++ inside
  pub begins : window.begin ≡ length past
  pub states : List S
  pub cut : IsCut Step olds past states
  pub front : IsFrontOf Step window.front inside states
  pub some : 0 < length window.front.configs.items

-- Orders of what comes since an index at which no call is open lead to more configurations than are
-- followed.
pub record LeadsTooFar {S : Type 0} (Step : S → ℕ → S → Type 0) (olds : List S)
    (events : List Event) : Type 0 where
  pub past : List Event
  pub inside : List Event
  pub split : events ≡ past ++ inside
  pub states : List S
  pub cut : IsCut Step olds past states
  pub many : HasManyOrders Step inside states

-- An order explains the events before this index. Then at the index:
-- Refused: a call was answered, and no order explains the events up to it.
-- ManyConfigs: orders that explain the events before it, or those up to it, lead too far.
-- ManyOpen: 65 calls are open behind it.
abbrev pub IsStopAt : {S : Type 0} → (S → ℕ → S → Type 0) → List S → List Event → ℕ → Stop → Type 0
IsStopAt Step olds events index stop.Refused =
    ((call : ℕ) × StandsAt events index (End call))
    × (¬ (IsExplained Step (take (index + 1) events) olds))
IsStopAt Step olds events index stop.ManyConfigs =
    LeadsTooFar Step olds (take index events) ⊎ LeadsTooFar Step olds (take (index + 1) events)
IsStopAt Step olds events index stop.ManyOpen = HasManyOpen (take (index + 1) events)

pub record IsStop {S : Type 0} (Step : S → ℕ → S → Type 0) (olds : List S) (events : List Event)
    (index : ℕ) (why : Stop) : Type 0 where
  pub within : index < length events
  pub before : IsExplained Step (take index events) olds
  pub at : IsStopAt Step olds events index why

-- a call is open behind each of the events from this index on, up to the last
abbrev pub IsBusyFrom : ℕ → List Event → Type 0
IsBusyFrom begin events =
    (at : ℕ) → begin < at → at ≤ length events → ¬ (IsQuiet (take at events))

-- Explained: some order explains the history; with the window that it ends in.
-- Refused, ManyConfigs, ManyOpen: an order explains the events before this index, and it is refused
-- or not decided there; with the window that they end in, which begins where no call was open last.
abbrev pub IsVerdict : {S : Type 0} → (S → ℕ → S → Type 0) → List S → List Event → Verdict S
    → Type 0
IsVerdict Step olds events (verdict.Explained window) =
    IsExplained Step events olds × IsWindowOf Step olds events window
IsVerdict Step olds events (verdict.Refused index window) =
    IsStop Step olds events index stop.Refused × IsWindowOf Step olds (take index events) window
    × IsBusyFrom window.begin (take index events)
IsVerdict Step olds events (verdict.ManyConfigs index) =
    IsStop Step olds events index stop.ManyConfigs
IsVerdict Step olds events (verdict.ManyOpen index) =
    IsStop Step olds events index stop.ManyOpen

-- A history that is explained is not refused, and it is refused at one index.
abbrev pub VerdictsExclude : {S : Type 0} → (S → ℕ → S → Type 0) → Type 0
VerdictsExclude {S} Step =
    (olds : List S) (events : List Event) (end window last : Window S) (index other : ℕ)
    → IsHistory events
    → (IsVerdict Step olds events (verdict.Explained end)
    → IsVerdict Step olds events (verdict.Refused index window) → ⊥)
    × (IsVerdict Step olds events (verdict.Refused index window)
    → IsVerdict Step olds events (verdict.Refused other last) → index ≡ other)

-- where orders explain the history, the configurations of the window are those of all that do: no
-- call is before the window
abbrev pub IsWhole : {S : Type 0} → (S → ℕ → S → Type 0) → List S → List Event → Verdict S → Type 0
IsWhole Step olds events (verdict.Explained window) = IsFrontOf Step window.front events olds
IsWhole Step olds events _ = Unit {0}

-- this order of the calls explains the history from one of the old states
abbrev pub IsOrder : {S : Type 0} → (S → ℕ → S → Type 0) → List Event → List S → List ℕ → Type 0
IsOrder {S} Step events olds order =
    (old : S) × (new : S) × Contains olds old × Explains Step events old order new

-- this is the order of the first configuration of the front
abbrev pub IsFirstOrder : {S : Type 0} → Front S → List ℕ → Type 0
IsFirstOrder {S} front order =
    (d : Config S) → order ≡ order_of front.links.items (get_or front.configs.items 0 d)

-- a new window begins after so many events, or a call is open and nothing changes
abbrev pub BeginsWindow : {S : Type 0} → (S → ℕ → S → Type 0) → ℕ → Window S → Window S → Type 0
BeginsWindow Step count old new =
    ((new.begin ≡ count) × BeginsAnew Step old.front new.front true)
    ⊎ ((new.begin ≡ old.begin) × BeginsAnew Step old.front new.front false)

-- the history is cut after so many events, or not
abbrev pub CutsAt : {S : Type 0} → (S → ℕ → S → Type 0) → Cut → ℕ → Window S → Window S → Type 0
CutsAt Step cut.WhereQuiet count old new = BeginsWindow Step count old new
CutsAt Step cut.Never count old new = new ≡ old

-- the call that the event is of
abbrev pub call_of : Event → ℕ
call_of (Begin call) = call
call_of (End call) = call
call_of (Crash call) = call

-- the events of the calls that are kept
abbrev pub events_of : (ℕ → Bool) → List Event → List Event
events_of kept events = filter (λ e. kept (call_of e)) events

-- each call that is left out changes nothing, in whatever state it is made
abbrev pub LeavesOutIdle : {S : Type 0} → (S → ℕ → S → Type 0) → (ℕ → Bool) → Type 0
LeavesOutIdle Step kept = (call : ℕ) → kept call ≡ false → IsIdle Step call

-- No order explains the events of the calls that are kept, and each other call changes nothing.
pub record IsRest {S : Type 0} (Step : S → ℕ → S → Type 0) (olds : List S) (events : List Event)
    (kept : ℕ → Bool) : Type 0 where
  pub refused : ¬ (IsExplained Step (events_of kept events) olds)
  pub others : LeavesOutIdle Step kept

-- The calls are needed, so that the events in the window are refused: from the states that were
-- left where it begins, no order explains the events of these calls in it, and each other call
-- changes nothing.
pub record AreNeeded {S : Type 0} (Step : S → ℕ → S → Type 0) (olds : List S)
    (past window : List Event) (kept : ℕ → Bool) : Type 0 where
  pub states : List S
  pub cut : IsCut Step olds past states
  pub rest : IsRest Step states window kept

-- Where calls that change nothing are left out, an order that explains all, without them, explains
-- the rest.
abbrev pub OrdersExplainTheRest : {S : Type 0} → (S → ℕ → S → Type 0) → Type 0
OrdersExplainTheRest {S} Step =
    (kept : ℕ → Bool) (events : List Event) (old new : S) (order : List ℕ)
    → LeavesOutIdle Step kept → Explains Step events old order new
    → Explains Step (events_of kept events) old (filter kept order) new

-- so where no order explains the rest, none explains all
abbrev pub RefusedRestsRefuse : {S : Type 0} → (S → ℕ → S → Type 0) → Type 0
RefusedRestsRefuse {S} Step =
    (kept : ℕ → Bool) (events : List Event) (olds : List S) → IsRest Step olds events kept
    → ¬ (IsExplained Step events olds)

-- the history is cut after these events, from some states
abbrev pub HasCut : {S : Type 0} → (S → ℕ → S → Type 0) → List S → List Event → Type 0
HasCut {S} Step olds past = (states : List S) × IsCut Step olds past states

-- the call of this number is not left out
abbrev pub is_kept : List Bool → ℕ → Bool
is_kept left_out call = not (get_or left_out call false)

-- the states of the configurations
abbrev pub states_of : {S : Type 0} → List (Config S) → List S
states_of {S} configs = map (λ (c : Config S). c.state) configs

-- each of these calls changes nothing, in whatever state it is made
abbrev pub AreIdle : {S : Type 0} → (S → ℕ → S → Type 0) → List Bool → Type 0
AreIdle Step calls = (call : ℕ) → get_or calls call false ≡ true → IsIdle Step call

-- each call begins once, and one that is open ends
abbrev pub IsWellFormed : List Event → Type 0
IsWellFormed events =
    (index : ℕ) (event : Event) → StandsAt events index event
    → ((call : ℕ) → event ≡ Begin call → begins call (take index events) ≡ 0)
    × EndsOpen (take index events) event

-- The events are a history, and end in the window. So they and those before the window are sound,
-- and calls are numbered by their begins.
pub record GoesTo {S : Type 0} (Step : S → ℕ → S → Type 0) (olds : List S) (events : List Event)
    (window : Window S) : Type 0 where
  pub is : IsWindowOf Step olds events window
  pub history : IsHistory events
  pub first : IsSound is.past
  pub whole : IsSound events
  pub numbered : (call : ℕ) → 0 < begins call events → call < begun events

-- the events end in a window with this front
abbrev pub IsFrontAfter : {S : Type 0} → (S → ℕ → S → Type 0) → List S → List Event → Front S →
    Type 0
IsFrontAfter Step olds events front =
    (begin : ℕ) × GoesTo Step olds events (record { begin = begin; front = front })

-- of the calls that are open after the first events, or begin in the others, the machine makes each
-- as the history has it
abbrev pub AgreesOn : {S : Type 0} → (S → ℕ → S → Type 0) → (S → ℕ → S → Type 0) → List Event
    → List Event → Type 0
AgreesOn {S} Made Step past events =
    (call : ℕ) → (IsOpen past call ⊎ (0 < begins call events))
    → (old new : S) → Made old call new ↔ Step old call new

-- the call that begins at this index is answered next, and both events were followed; or nothing
-- changed
abbrev pub IsMadeNext : {M S : Type 0} → (M → S → ℕ → S → Type 0) → M → List Event → ℕ → Front S
    → Front S → Bool → Type 0
IsMadeNext Step machine events at old new true =
    (call : ℕ) × StandsAt events at (Begin call) × StandsAt events (at + 1) (End call)
    × IsMadeAlone Step machine old call new true
IsMadeNext Step machine events at old new false = IsSameFront old new

-- a history whose first events the front is of, and that goes on with the others
pub record Precedes {M S : Type 0} (Step : M → S → ℕ → S → Type 0) (machine : M)
    (front : Front S) (events : List Event) (whole : M) (past : List Event) (olds : List S)
    : Type 0 where
  pub history : IsHistory (past ++ events)
  pub agrees : AgreesOn (Step machine) (Step whole) past events
  pub front_of : IsFrontAfter (Step whole) olds past front

-- there is one
abbrev pub HasPast : {M S : Type 0} → (M → S → ℕ → S → Type 0) → M → Front S → List Event → Type 0
HasPast {M} {S} Step machine front events =
    (whole : M) × (past : List Event) × (olds : List S)
    × Precedes Step machine front events whole past olds

-- of each such history the new front is that of the first events and of so many of the others
abbrev pub GoesOnTo : {M S : Type 0} → (M → S → ℕ → S → Type 0) → M → Front S → List Event
    → ℕ → Front S → Type 0
GoesOnTo {M} {S} Step machine old events at new =
    (whole : M) (past : List Event) (olds : List S)
    → Precedes Step machine old events whole past olds
    → IsFrontAfter (Step whole) olds (past ++ take at events) new

-- the front has gone on with all events, or orders do not lead on
abbrev pub GoesOn : {M S : Type 0} → (M → S → ℕ → S → Type 0) → M → Front S → List Event
    → Front S → Bool → Type 0
GoesOn {M} {S} Step machine old events new true =
    (whole : M) (past : List Event) (olds : List S)
    → Precedes Step machine old events whole past olds
    → IsFrontAfter (Step whole) olds (past ++ events) new
GoesOn Step machine old events new false = Unit {0}
