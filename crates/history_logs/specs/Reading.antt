-- What the lines of a log are.
use Rattle.std.specs.Prelude.{◌≡◌, ◌≢◌, ◌⊎◌, ℕ, ◌+◌, ◌<◌, List, [], ◌∷◌, ◌++◌, All, Option, Some, None, IsTrue, length, slice_get}
use Rattle.std.specs.List.{slice_set}
use Rattle.iox2_dynamic.specs.Service as dynamic
use Rattle.line_streams.specs.Spelling.{HasNo}
use Rattle.log_lines.specs.Commands.{NamedCommand}
use Rattle.log_lines.specs.Lines.{IsLine, Line, is_note, line_text}
use Rattle.log_lines.specs.Lines.Line.{service, call, reply, begin, end, crash, given}
use Rattle.log_lines.specs.States.{State}
use Rattle.log_lines.specs.States.State.{nodes, ports, entry}
use Rattle.service_conformance.specs.declared.conformance.seen_reply.SeenReply.{SeenReply}
use Rattle.service_conformance.specs.Given.{GivesNode, GivesNodes, GivesPort, GivesPorts}
use Rattle.service_conformance.specs.Seen.{IsSeen, seen_text}
use Rattle.service_descriptions.specs.declared.replay.machine.command.Command.TheVariants as command
use Rattle.history_logs.specs.declared.logs.callers.CallerState.{CallerState}
use Rattle.history_logs.specs.declared.logs.callers.CallerState.TheVariants as caller
use Rattle.history_logs.specs.declared.logs.verdict.Expected.{Expected}
use Rattle.history_logs.specs.declared.logs.verdict.Expected.TheVariants as expected
use Rattle.history_logs.specs.Seen.{Begins, HasHandles, IsKeptCall, Service, called, started, unseen, with_alone, with_crash, with_end}

-- What was read: the services; what each caller does, or `None` where it has begun no call; and the
-- command of the call alone that waits for its reply, with the index of its service.
pub record Log : Type 0 where
  pub services : List Service
  pub callers : List ℕ → Option CallerState
  pub waits : Option (ℕ × NamedCommand)

-- no service has this number
abbrev pub IsNew : ℕ → List Service → Type 0
IsNew number services = All (λ (s : Service). s.line.number ≢ number) services

-- each of them has this number
abbrev pub HaveNumber : ℕ → List Service → Type 0
HaveNumber number services = All (λ (s : Service). s.line.number ≡ number) services

-- none of them that stands behind the index has this number
abbrev pub IsNewBehind : ℕ → List Service → ℕ → Type 0
IsNewBehind number services at =
    (later : ℕ) (t : Service) → at < later → slice_get services later ≡ Some t
    → t.line.number ≢ number

-- With this before a call, it is one on the service at the index: its number, or nothing where no
-- service has another number. A service that began anew stands there again, and the last one is
-- meant.
pub record IsNamed (number : Option ℕ) (services : List Service) (at : ℕ) (s : Service) : Type 0
  where
    pub there : slice_get services at ≡ Some s
    pub named : (number ≡ Some s.line.number)
        ⊎ ((number ≡ None) × HaveNumber s.line.number services)
    pub last : IsNewBehind s.line.number services at

-- the caller does this from now on, and the others what they did
pub record Sets (old : List ℕ → Option CallerState) (name : List ℕ) (state : CallerState)
    (new : List ℕ → Option CallerState) : Type 0 where
  pub own : new name ≡ Some state
  pub others : (other : List ℕ) → other ≢ name → new other ≡ old other

-- the caller has no call open, and has not died
abbrev pub MayBegin : Option CallerState → Type 0
MayBegin state = (state ≡ None) ⊎ (state ≡ Some caller.Idle)

-- what is expected in place of the begin of a call of a caller that does this
abbrev pub RefusesBegin : Option CallerState → Expected → Type 0
RefusesBegin (Some (caller.Calls at number)) e = e ≡ expected.IdleCaller
RefusesBegin (Some caller.Dead) e = e ≡ expected.LiveCaller
RefusesBegin _ e = ⊥

-- the reply has these words
pub record Says (words : List ℕ) (r : SeenReply) : Type 0 where
  pub is : IsSeen r
  pub text : seen_text r ≡ words

-- what the crash of a caller that did this adds to the services
abbrev pub Crashes : List Service → ℕ → Option CallerState → List Service → Type 0
Crashes old line None new = ⊥
Crashes old line (Some caller.Dead) new = ⊥
Crashes old line (Some caller.Idle) new = new ≡ old
Crashes old line (Some (caller.Calls at number)) new =
    (s : Service) × (slice_get old at ≡ Some s)
    × (new ≡ slice_set old at (with_crash s number line))

-- What is given of a service that was in use leads from one to another.
abbrev pub Gives : dynamic.Service → State → dynamic.Service → Type 0
Gives old (nodes used locked) new = GivesNodes old used locked new
Gives old (ports r used) new = GivesPorts old r used new
Gives old (entry slot ticket (command.Register id)) new = GivesNode old slot ticket id new
Gives old (entry slot ticket (command.Add details)) new = GivesPort old slot ticket details new
Gives old (entry slot ticket _) new = ⊥

-- no call on the service was seen, and with this given it is so before its first one
abbrev pub StartsAs : Service → State → dynamic.Service → Type 0
StartsAs s what start = (s.calls ≡ []) × Gives s.start what start

-- no caller has a call open on the service at the index
abbrev pub NoneCalls : (List ℕ → Option CallerState) → ℕ → Type 0
NoneCalls callers at =
    (name : List ℕ) (number : ℕ) → callers name ≢ Some (caller.Calls at number)

-- Calls on the service at the index were seen, and none is open. With this given it begins anew,
-- and is so before the next one.
abbrev pub StartsAnewAs : Log → ℕ → Service → State → dynamic.Service → Type 0
StartsAnewAs log at s what start =
    (s.calls ≢ []) × NoneCalls log.callers at × Gives (unseen s.line).start what start

-- what is given of the service at the index, which is so then, adds this to what was read
abbrev pub AddsState : Log → ℕ → Service → State → dynamic.Service → Log → Type 0
AddsState old at s what start new =
    (StartsAs s what start
    × (new ≡ record old { services = slice_set old.services at (started s start) }))
    ⊎ (StartsAnewAs old at s what start
    × (new ≡ record old { services = old.services ++ started (unseen s.line) start ∷ [] }))

-- A line, which has this number, may come next, and leads to what was read then. Below a call alone
-- its reply comes. A caller begins a call where it has none open, and ends the one that is. What is
-- given of a service stands above all calls on it. Below calls it stands where none is open, and
-- the service begins anew: what was seen of it above stays for itself.
abbrev pub GoesOn : Log → ℕ → Line → Log → Type 0
GoesOn old k (service line) new =
    (old.waits ≡ None) × IsNew line.number old.services
    × (new ≡ record old { services = old.services ++ unseen line ∷ [] })
GoesOn old k (call number command) new =
    (at : ℕ) × (s : Service) × (old.waits ≡ None) × IsNamed number old.services at s
    × (new ≡ record old { waits = Some (at, command) })
GoesOn old k (reply words) new =
    (at : ℕ) × (c : NamedCommand) × (s : Service) × (r : SeenReply) × (old.waits ≡ Some (at, c))
    × (slice_get old.services at ≡ Some s) × Says words r
    × (new ≡ record old {
      services = slice_set old.services at (with_alone s (called s c) r k);
      waits = None;
    })
GoesOn old k (begin number name begun) new =
    (at : ℕ) × (s : Service) × (old.waits ≡ None) × IsNamed number old.services at s
    × MayBegin (old.callers name)
    × ((t : Service) × (current : ℕ) × Begins s begun k t current
    × (new.services ≡ slice_set old.services at t)
    × Sets old.callers name (caller.Calls at current) new.callers × (new.waits ≡ None))
GoesOn old k (end name words) new =
    (at : ℕ) × (number : ℕ) × (s : Service) × (r : SeenReply) × (old.waits ≡ None)
    × (old.callers name ≡ Some (caller.Calls at number))
    × (slice_get old.services at ≡ Some s) × Says words r
    × (new.services ≡ slice_set old.services at (with_end s number r k))
    × Sets old.callers name caller.Idle new.callers × (new.waits ≡ None)
GoesOn old k (crash name) new =
    (old.waits ≡ None) × Crashes old.services k (old.callers name) new.services
    × Sets old.callers name caller.Dead new.callers × (new.waits ≡ None)
GoesOn old k (given number what) new =
    (at : ℕ) × (s : Service) × (start : dynamic.Service) × (old.waits ≡ None)
    × IsNamed number old.services at s × AddsState old at s what start new

-- the first lines of a log, so many, are this text, and this was read of them
pub data HasRead : List ℕ → ℕ → Log → Type 0 where
  nothing : (log : Log) → log.services ≡ [] → ((name : List ℕ) → log.callers name ≡ None)
      → log.waits ≡ None → HasRead [] 0 log
  note : (text : List ℕ) (count : ℕ) (log : Log) → HasRead text count log
      → (line : List ℕ) → HasNo 10 line → IsTrue (is_note line)
      → HasRead (text ++ (line ++ 10 ∷ [])) (count + 1) log
  line : (text : List ℕ) (count : ℕ) (old : Log) → HasRead text count old
      → (l : Line) → IsLine l → HasNo 10 (line_text l)
      → (new : Log) → GoesOn old (count + 1) l new
      → HasRead (text ++ (line_text l ++ 10 ∷ [])) (count + 1) new

-- with this before a call, it is on none of the services
abbrev pub IsNameless : Option ℕ → List Service → Type 0
IsNameless number services = (at : ℕ) (s : Service) → ¬ (IsNamed number services at s)

-- it is on one of them
abbrev pub HasNamed : Option ℕ → List Service → Type 0
HasNamed number services = (at : ℕ) × (s : Service) × IsNamed number services at s

-- what is expected in place of the end, with these words, of a call of a caller that does this
abbrev pub RefusesEnd : List ℕ → Option CallerState → Expected → Type 0
RefusesEnd words None e = e ≡ expected.OpenCall
RefusesEnd words (Some caller.Idle) e = e ≡ expected.OpenCall
RefusesEnd words (Some caller.Dead) e = e ≡ expected.LiveCaller
RefusesEnd words (Some (caller.Calls at number)) e =
    (e ≡ expected.Reply) × ((r : SeenReply) → ¬ (Says words r))

-- what is expected in place of the crash of a caller that does this
abbrev pub RefusesCrash : Option CallerState → Expected → Type 0
RefusesCrash None e = e ≡ expected.KnownCaller
RefusesCrash (Some caller.Dead) e = e ≡ expected.LiveCaller
RefusesCrash _ e = ⊥

-- on one of them, no service is so that this may be given of it
abbrev pub NoneStarts : Log → Option ℕ → State → Type 0
NoneStarts log number what =
    (at : ℕ) × (s : Service) × IsNamed number log.services at s
    × ((start : dynamic.Service) → ¬ (StartsAs s what start))
    × ((start : dynamic.Service) → ¬ (StartsAnewAs log at s what start))

-- The line may not come next, and this is expected in its stead: another number, where it is a
-- service with that of one above; a line on a service above, where it is on none; a call alone,
-- where it is a reply; else what its caller is to do, the words of a reply, or a state that the
-- service can have.
abbrev pub IsRefused : Log → Line → Expected → Type 0
IsRefused log (service l) e = (e ≡ expected.NewNumber) × (¬ (IsNew l.number log.services))
IsRefused log (call number c) e = (e ≡ expected.Call) × IsNameless number log.services
IsRefused log (reply words) e = e ≡ expected.CallAlone
IsRefused log (begin number name c) e =
    ((e ≡ expected.Call) × IsNameless number log.services)
    ⊎ (HasNamed number log.services × RefusesBegin (log.callers name) e)
IsRefused log (end name words) e = RefusesEnd words (log.callers name) e
IsRefused log (crash name) e = RefusesCrash (log.callers name) e
IsRefused log (given number what) e =
    ((e ≡ expected.Call) × IsNameless number log.services)
    ⊎ ((e ≡ expected.State) × NoneStarts log number what)

-- None: the line comes next. Some: it may not, and what was seen of the services stays.
abbrev pub Does : Log → ℕ → Line → Option Expected → Log → Type 0
Does old k l None new = GoesOn old k l new
Does old k l (Some e) new = IsRefused old l e × (new.services ≡ old.services)

-- Each service has the handles of its calls. A call that a caller has open, or that waits for its
-- reply, is on one of them, and not forgotten.
pub record IsSane (log : Log) : Type 0 where
  pub handles : All HasHandles log.services
  pub opened : (name : List ℕ) (at number : ℕ)
      → log.callers name ≡ Some (caller.Calls at number)
      → (s : Service) × (slice_get log.services at ≡ Some s) × (number < length s.calls)
      × IsKeptCall s number
  pub waits : (at : ℕ) (c : NamedCommand) → log.waits ≡ Some (at, c) → at < length log.services
