-- What reading a log finds.
use Rattle.std.specs.Prelude.{◌≡◌, ◌≢◌, ◌⊎◌, ℕ, ◌+◌, ◌<◌, ◌≤◌, List, [], ◌∷◌, ◌++◌, All, Bool, true, false, Option, Some, None, IsTrue, codes, length, slice_get}
use Rattle.histories.specs.Frontier.{IsSound}
use Rattle.histories.specs.Histories.{IsHistory, IsOpen, begins, begun}
use Rattle.iox2_dynamic.specs.Service as dynamic
use Rattle.log_lines.specs.Commands.{NamedCommand}
use Rattle.log_lines.specs.Lines.{IsLine, Line, is_note, line_text}
use Rattle.log_lines.specs.States.{State}
use Rattle.log_lines.specs.Lines.Line.{service}
use Rattle.service_conformance.specs.declared.conformance.seen_reply.SeenReply.{SeenReply}
use Rattle.history_logs.specs.declared.logs.callers.CallerState.TheVariants as caller
use Rattle.history_logs.specs.declared.logs.verdict.Expected.TheVariants as expected
use Rattle.history_logs.specs.declared.logs.verdict.Expected.{Expected}
use Rattle.history_logs.specs.Logs.{HasGood, IsBad, IsBadText, IsWrong, LacksReply, calls_in}
use Rattle.history_logs.specs.Reading.{GoesOn, Log, Says, StartsAnewAs, StartsAs}
use Rattle.history_logs.specs.Seen.{HasAll, Service, started, unseen}

-- Each call of the service has its role, its handle and its line, and each event its line. What
-- happened is a history, in which so many calls begin as the service has.
pub record IsOrderly (s : Service) : Type 0 where
  pub all : HasAll s
  pub history : IsHistory s.events
  pub counts : begun s.events ≡ length s.calls
  pub sound : IsSound s.events
  pub numbered : (c : ℕ) → 0 < begins c s.events → c < begun s.events

-- the call of this number on the service at the index is open
abbrev pub IsOpenOn : List Service → ℕ → ℕ → Type 0
IsOpenOn services at number =
    (s : Service) × (slice_get services at ≡ Some s) × IsOpen s.events number

-- What holds of all that is read: a call that a caller has open is open, and that of no other
-- caller; a call that waits for its reply is on a service; where there is none, no caller is known.
pub record IsKept (log : Log) : Type 0 where
  pub orderly : All IsOrderly log.services
  pub opened : (name : List ℕ) (at number : ℕ)
      → log.callers name ≡ Some (caller.Calls at number) → IsOpenOn log.services at number
  pub apart : (one other : List ℕ) (at number : ℕ)
      → log.callers one ≡ Some (caller.Calls at number)
      → log.callers other ≡ Some (caller.Calls at number) → one ≡ other
  pub waits : (at : ℕ) (c : NamedCommand) → log.waits ≡ Some (at, c) → at < length log.services
  pub none : log.services ≡ [] → (name : List ℕ) → log.callers name ≡ None

-- no line with this text may come next, and have this number
abbrev pub HasNoNext : Log → ℕ → List ℕ → Type 0
HasNoNext old k text =
    (l : Line) (new : Log) → IsLine l → line_text l ≡ text → ¬ (GoesOn old k l new)

-- whether a line is that of a service
abbrev pub is_service : Line → Bool
is_service (service line) = true
is_service _ = false

-- the text is the line of a reply, and the reply has these words
pub record SaysIn (text : List ℕ) (r : SeenReply) : Type 0 where
  pub words : List ℕ
  pub spelled : text ≡ codes "= " ++ words
  pub says : Says words r

-- what a line where no call waits does to what was read
abbrev pub TakesNext : Log → ℕ → List ℕ → Option Expected → Log → Type 0
TakesNext old k text None new =
    (l : Line) × IsLine l × (line_text l ≡ text) × GoesOn old k l new
TakesNext old k text (Some e) new = IsWrong old text e × (new.services ≡ old.services)

-- what is wrong with a line that is no note
abbrev pub IsBadLine : Log → List ℕ → Expected → Type 0
IsBadLine old text e =
    ((old.waits ≢ None) × LacksReply text × (e ≡ expected.Reply))
    ⊎ ((old.waits ≡ None) × IsWrong old text e)

-- what a line that is no note does to what was read
abbrev pub TakesLine : Log → ℕ → List ℕ → Option Expected → Log → Type 0
TakesLine old k text None new =
    (l : Line) × IsLine l × (line_text l ≡ text) × GoesOn old k l new
TakesLine old k text (Some e) new = IsBadLine old text e × (new.services ≡ old.services)

-- What a line of this number and text does to what was read.
-- None: it is a note and changes nothing, or the line goes on.
-- Some: it may not come next, where nothing is forgotten, and what was seen of the services stays.
abbrev pub Takes : Log → ℕ → List ℕ → Option Expected → Log → Type 0
Takes old k text None new =
    (IsTrue (is_note text) × (new ≡ old))
    ⊎ ((l : Line) × IsLine l × (line_text l ≡ text) × GoesOn old k l new)
Takes old k text (Some e) new =
    IsKept old
    → (¬ (IsTrue (is_note text))) × HasNoNext old k text × IsBadText old text e
    × (new.services ≡ old.services)

-- where the good lines end: with the log, and nothing is missing, or before what is bad
abbrev pub EndsSo : Log → ℕ → List ℕ → Option (ℕ × Expected) → Type 0
EndsSo log count rest None = (rest ≡ []) × (log.waits ≡ None) × (0 < length log.services)
EndsSo log count rest (Some bad) = IsBad log rest bad.1 × (bad.0 ≡ count + 1)

-- The good lines of the log lead to these services, and end so. No more calls were read than the
-- log has bytes.
pub record IsReadTo (bytes : List ℕ) (services : List Service) (bad : Option (ℕ × Expected))
    : Type 0 where
  pub count : ℕ
  pub log : Log
  pub rest : List ℕ
  pub good : HasGood bytes count log rest
  pub same : log.services ≡ services
  pub orderly : All IsOrderly services
  pub few : calls_in log ≤ length bytes
  pub ends : EndsSo log count rest bad

-- what is given of a service does this to it
abbrev pub Starts : Service → State → Bool → Service → Type 0
Starts old what true new =
    (start : dynamic.Service) × StartsAs old what start × (new ≡ started old start)
Starts old what false new =
    ((start : dynamic.Service) → ¬ (StartsAs old what start)) × (new ≡ old)

-- What is given of the service at the index, below calls on it, does this to what was read.
-- None: it begins anew.
-- Some: it may not, and a state is expected that it can have.
abbrev pub GivesAnew : Log → ℕ → Service → State → Option Expected → Log → Type 0
GivesAnew old at s what None new =
    (start : dynamic.Service) × StartsAnewAs old at s what start
    × (new ≡ record old { services = old.services ++ started (unseen s.line) start ∷ [] })
GivesAnew old at s what (Some e) new =
    (e ≡ expected.State) × ((start : dynamic.Service) → ¬ (StartsAnewAs old at s what start))
    × (new.services ≡ old.services)
