-- What is kept of a log that is judged while it is read, and what settles of it meanwhile.
use Rattle.std.specs.Prelude.{◌≡◌, ◌+◌, ◌<◌, ◌≤◌, ◌⊎◌, [], ℕ, All, List, ◌++◌, Option, Some, None, get_or, length, slice_get, take}
use Rattle.histories.specs.declared.front.Event.{Event}
use Rattle.histories.specs.declared.front.Event.TheVariants.{Begin}
use Rattle.histories.specs.declared.front.Front.{Front}
use Rattle.histories.specs.Frontier.{HasSlot}
use Rattle.histories.specs.Histories.{HasEnded, StandsAt, begins, begun}
use Rattle.histories.specs.Windows.{IsFrontAfter}
use Rattle.service_conformance.specs.Judged.{Judged, WindowStep}
use Rattle.service_conformance.specs.Looks.{Watched}
use Rattle.history_logs.specs.Good.{IsOrderly}
use Rattle.history_logs.specs.Logs.{IsSeenRightly, news}
use Rattle.history_logs.specs.Seen.{Service, start_of}

-- the service, with the calls, the events and the lines of another one
abbrev pub shortened : Service → Service → Service
shortened s live = record s {
  first = live.first;
  calls = live.calls;
  begins = live.begins;
  events = live.events;
  event_lines = live.event_lines;
}

-- The front is that of the first events, whatever replies come later, and the calls that are open
-- in it are kept.
pub record IsSettled (s live : Service) (past : List Event) (front : Front Watched) : Type 0 where
  pub slots : (slot call : ℕ) → HasSlot front.slots.items slot call → live.first ≤ call
  pub some : 0 < length s.calls
  pub front_of : (final : List Judged) → take (begun past) final ≡ take (begun past) s.calls
      → IsFrontAfter (WindowStep 0 final) (news s) past front

-- the front is that of the first events; where there is none yet, no events are forgotten
abbrev pub HasFront : Service → Service → List Event → Option (Front Watched) → Type 0
HasFront s live past None = past ≡ []
HasFront s live past (Some front) = IsSettled s live past front

-- The other one is the service, where the first events are forgotten: the front has followed them.
-- The calls that begin in them are over, and the weak listings among them were answered too. All
-- calls from the first one on are kept, and so are all other events.
pub record IsShort (s live : Service) (front : Option (Front Watched)) : Type 0 where
  pub is : live ≡ shortened s live
  pub count : length live.calls ≡ length s.calls
  pub calls : (number : ℕ) → live.first ≤ number
      → slice_get live.calls number ≡ slice_get s.calls number
  pub stops : (number start : ℕ) → start_of s.calls number ≡ Some start → start + 1 ≡ number
  pub past : List Event
  pub events : s.events ≡ past ++ live.events
  pub within : begun past ≤ length s.calls
  pub over : (number : ℕ) → number < begun past → HasEnded s.events number
  pub shows : (number start : ℕ) → start_of s.calls number ≡ Some start → start < begun past
      → HasEnded s.events number
  pub first : live.first ≤ begun past
  pub has : HasFront s live past front

-- the front of a service at an index, if it has one
abbrev pub front_at : List (Option (Front Watched)) → ℕ → Option (Front Watched)
front_at fronts at = get_or fronts at None

-- each service is kept so
abbrev pub AreShort : List Service → List Service → List (Option (Front Watched)) → Type 0
AreShort services live fronts =
    (length live ≡ length services) × (length fronts ≤ length services)
    × ((at : ℕ) (s t : Service) → slice_get services at ≡ Some s → slice_get live at ≡ Some t
    → IsShort s t (front_at fronts at))

-- the call is over in the events, and the weak listing too that starts with it, if one does
abbrev pub IsOverIn : Service → List Event → ℕ → Type 0
IsOverIn s events call =
    HasEnded events call
    × (start_of s.calls (call + 1) ≡ Some call → HasEnded events (call + 1))

-- so it is with the call that the event at this index begins, if it begins one
abbrev pub MayFollowAt : Service → ℕ → Type 0
MayFollowAt s at =
    (call : ℕ) → StandsAt s.events at (Begin call) → IsOverIn s s.events call

-- so it is with each call that begins in these
abbrev pub AreOver : Service → List Event → Type 0
AreOver s followed = (call : ℕ) → 0 < begins call followed → IsOverIn s s.events call

-- something of a service is kept so
abbrev pub HasShort : Service → Option (Front Watched) → Type 0
HasShort live front = (s : Service) × IsOrderly s × IsShort s live front

-- the number is that of the call, or the next one
abbrev pub IsBehind : ℕ → ℕ → Type 0
IsBehind call number = (call ≤ number) × (number ≤ call + 1)

-- the number is the first one, or stands behind that of a call that begins in the events
abbrev pub IsBehindBegun : ℕ → List Event → ℕ → Type 0
IsBehindBegun first events number =
    (number ≡ first) ⊎ ((call : ℕ) × (0 < begins call events) × IsBehind call number)

-- Of each service that is kept so, the new front is that of so many events more, whatever replies
-- come later to the calls that begin behind them.
abbrev pub GoesShort : Service → Front Watched → ℕ → Front Watched → Type 0
GoesShort live old count new =
    (s : Service) → IsOrderly s → (k : IsShort s live (Some old)) → (final : List Judged)
    → take (begun (k.past ++ take count live.events)) final
    ≡ take (begun (k.past ++ take count live.events)) s.calls
    → IsFrontAfter (WindowStep 0 final) (news s) (k.past ++ take count live.events) new

-- each service that was kept so is kept so still
abbrev pub Stays : Service → Option (Front Watched) → Service → Option (Front Watched) → Type 0
Stays old front new next =
    (s : Service) → IsOrderly s → IsShort s old front → IsShort s new next

-- all that was seen of each service that is kept so is explained
abbrev pub IsRightShort : Service → Option (Front Watched) → Type 0
IsRightShort live front = (s : Service) → IsOrderly s → IsShort s live front → IsSeenRightly s

-- something of services is kept so
abbrev pub HaveShort : List Service → List (Option (Front Watched)) → Type 0
HaveShort live fronts =
    (services : List Service) × All IsOrderly services × AreShort services live fronts

-- all services that were kept so are kept so still
abbrev pub StayAll : List Service → List (Option (Front Watched)) → List Service
    → List (Option (Front Watched)) → Type 0
StayAll old fronts new next =
    (services : List Service) → All IsOrderly services → AreShort services old fronts
    → AreShort services new next

-- all that was seen of services that are kept so is explained
abbrev pub AreRightShort : List Service → List (Option (Front Watched)) → Type 0
AreRightShort live fronts =
    (services : List Service) → All IsOrderly services → AreShort services live fronts
    → All IsSeenRightly services

-- each service has the front that it had, or none
abbrev pub AreSameFronts : List (Option (Front Watched)) → List (Option (Front Watched)) → Type 0
AreSameFronts old new = (at : ℕ) → front_at new at ≡ front_at old at
