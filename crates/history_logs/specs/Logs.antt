-- What a log is judged to be.
use Rattle.std.specs.Prelude.{◌≡◌, ◌≢◌, ◌⊎◌, ◌==◌, ℕ, zero, suc, ◌+◌, ◌<◌, List, [], ◌∷◌, ◌++◌, All, Bool, Contains, Option, Some, None, IsTrue, codes, drop, eqb, filter, get_or, if◌then◌else◌, length, ltb, map, slice_get, sum_by, take, true}
use Rattle.std.specs.List.{AllZip, dedup, flat_map}
use Rattle.std.specs.List.Sorted.{IsStrictlyIncreasing}
use Rattle.std.specs.Int.{bit_at}
use Rattle.std.specs.Set.{distinct_count}
use Rattle.histories.specs.declared.front.Event.{Event}
use Rattle.histories.specs.declared.front.Event.TheVariants.{Begin, Crash, End}
use Rattle.histories.specs.declared.front.Config.{Config}
use Rattle.histories.specs.Frontier.{HasSlot}
use Rattle.histories.specs.Histories.{IsExplained, StandsAt}
use Rattle.histories.specs.declared.window.Stop.{Stop}
use Rattle.histories.specs.declared.window.Stop.TheVariants as stop
use Rattle.histories.specs.declared.window.Window.{Window}
use Rattle.histories.specs.Windows.{AreNeeded, IsBusyFrom, IsStop, IsWindowOf, events_of}
use Rattle.iox2_container.specs.Steps.{listed}
use Rattle.line_streams.specs.Spelling.{HasNo}
use Rattle.log_lines.specs.declared.form.LogForm.{LogForm}
use Rattle.log_lines.specs.Forms.{HasForm}
use Rattle.log_lines.specs.Lines.{IsLine, Line, is_note, line_text}
use Rattle.service_conformance.specs.Judged.{AreJudgedReplies, Judged as Call, WindowStep, words_of}
use Rattle.service_conformance.specs.Looks.{Watched, unwatched}
use Rattle.service_conformance.specs.declared.conformance.seen_reply.SeenReply.{SeenReply}
use Rattle.service_descriptions.specs.declared.replay.lines.line.ServiceLine.{ServiceLine}
use Rattle.service_descriptions.specs.Script.{IsServiceLine, service_line}
use Rattle.history_logs.specs.declared.logs.verdict.Configuration.{Configuration}
use Rattle.history_logs.specs.declared.logs.verdict.Expected.{Expected}
use Rattle.history_logs.specs.declared.logs.verdict.Expected.TheVariants as expected
use Rattle.history_logs.specs.declared.logs.verdict.Refusal.{Refusal}
use Rattle.history_logs.specs.declared.logs.verdict.Verdict.{Verdict}
use Rattle.history_logs.specs.declared.logs.verdict.Verdict.TheVariants as verdict
use Rattle.history_logs.specs.EventLines.{IsCommandOf}
use Rattle.history_logs.specs.Reading.{GoesOn, HasRead, IsRefused, Log, Says}
use Rattle.history_logs.specs.Seen.{Service}

-- no line that may come next begins the bytes
abbrev pub EndsThere : Log → ℕ → List ℕ → Type 0
EndsThere log count rest =
    (first after : List ℕ) → HasNo 10 first → rest ≡ first ++ 10 ∷ after
    → (¬ (IsTrue (is_note first)))
    × ((l : Line) (new : Log) → IsLine l → line_text l ≡ first → ¬ (GoesOn log (count + 1) l new))

-- The good lines of the log, from its top to its end or to the first line that may not come next:
-- so many are there, this was read of them, and the rest follows them.
pub record HasGood (bytes : List ℕ) (count : ℕ) (log : Log) (rest : List ℕ) : Type 0 where
  pub text : List ℕ
  pub read : HasRead text count log
  pub spelled : bytes ≡ text ++ rest
  pub ends : EndsThere log count rest

-- A call on the service leads from one state to another, with the reply that is seen in the good
-- lines, or with any reply where none is.
abbrev pub StepOf : Service → Watched → ℕ → Watched → Type 0
StepOf s = WindowStep 0 s.calls

-- what the service is before its first call, where no weak listing looks at it
abbrev pub news : Service → List Watched
news s = unwatched s.start ∷ []

-- an order of the calls on it explains all that was seen of the service
abbrev pub IsSeenRightly : Service → Type 0
IsSeenRightly s = IsExplained (StepOf s) s.events (news s)

-- how many of its events stand above a line
abbrev pub count_above : ℕ → Service → ℕ
count_above k s = length (filter (λ index. ltb index k) s.event_lines)

-- the same of what was seen of it above a line
abbrev pub IsRightAbove : ℕ → Service → Type 0
IsRightAbove k s = IsExplained (StepOf s) (take (count_above k s) s.events) (news s)

-- what is seen of the service stops in this line
pub record StopsIn (s : Service) (k index : ℕ) (why : Stop) : Type 0 where
  pub stops : IsStop (StepOf s) (news s) s.events index why
  pub there : slice_get s.event_lines index ≡ Some k

-- what is seen of the service stops in this line, since a bound is passed
abbrev pub PassesBound : Service → ℕ → Type 0
PassesBound s k = (index : ℕ) × (why : Stop) × (why ≢ stop.Refused) × StopsIn s k index why

-- no reply of the service is refused above a line: what was seen above it is explained, or a bound
-- is passed above it
abbrev pub NoneRefusedAbove : ℕ → Service → Type 0
NoneRefusedAbove k s = IsRightAbove k s ⊎ ((line : ℕ) × (line < k) × PassesBound s line)

-- no reply of the service is refused: all that was seen is explained, or a bound is passed
abbrev pub NoneRefused : Service → Type 0
NoneRefused s = IsSeenRightly s ⊎ ((line : ℕ) × PassesBound s line)

-- a reply of one of the services is refused in this line, and none of any above it
pub record RefusesAt (services : List Service) (k : ℕ) (s : Service) (index : ℕ) : Type 0 where
  pub is : Contains services s
  pub stops : IsStop (StepOf s) (news s) s.events index stop.Refused
  pub there : slice_get s.event_lines index ≡ Some k
  pub above : All (NoneRefusedAbove k) services

-- What is seen of one of the services stops at this line, and that of each is explained above it.
-- Of none a reply is refused, also below it.
pub record StopsAt (services : List Service) (k : ℕ) (s : Service) (index : ℕ) (why : Stop)
    : Type 0 where
  pub is : Contains services s
  pub stops : IsStop (StepOf s) (news s) s.events index why
  pub there : slice_get s.event_lines index ≡ Some k
  pub above : All (IsRightAbove k) services
  pub others : All NoneRefused services

-- by the lines in which calls begin, the one of this number begins in this line
abbrev pub BeginsAt : List ℕ → ℕ → ℕ → Type 0
BeginsAt begins number k = slice_get begins number ≡ Some k

-- the call has this number, and begins in this line
abbrev pub BeginsIn : Service → ℕ → ℕ → Type 0
BeginsIn s number k = BeginsAt s.begins number k

-- the call has this slot, and was made
abbrev pub IsMade : List (Option ℕ) → Config Watched → ℕ → Type 0
IsMade slots config number =
    (slot : ℕ) × HasSlot slots slot number × (bit_at config.waiting slot ≡ 0)

-- What is reported of a configuration in which the call was refused: the lines in which those open
-- calls begin that were made, each once and in rising order, the replies that it could have had,
-- and who is there.
pub record IsReported (s : Service) (call : Call) (slots : List (Option ℕ))
    (config : Config Watched) (reported : Configuration) : Type 0 where
  pub made : All (λ k. (number : ℕ) × IsMade slots config number × BeginsIn s number k)
      reported.made.items
  pub each : (number k : ℕ) → IsMade slots config number → BeginsIn s number k
      → Contains reported.made.items k
  pub rising : IsStrictlyIncreasing reported.made.items
  pub possible : AreJudgedReplies config.state call reported.possible
  pub nodes : reported.nodes.items ≡ listed config.state.service.nodes.registry
  pub ports : reported.ports.items
      ≡ listed config.state.service.ports.first.registry
      ++ listed config.state.service.ports.second.registry

-- the line in which the call of the event begins, if it begins with it, by those of all calls
abbrev pub line_begun : List ℕ → Event → List ℕ
line_begun begins (Begin call) = get_or begins call 0 ∷ []
line_begun begins (End call) = []
line_begun begins (Crash call) = []

-- the lines in which the calls of the events begin, each once: a weak listing is two calls that
-- begin in one line
abbrev pub lines_begun : List ℕ → List Event → List ℕ
lines_begun begins events = dedup eqb (flat_map (line_begun begins) events)

-- the events of the service from one index up to another
abbrev pub events_from : Service → ℕ → ℕ → List Event
events_from s begin index = drop begin (take (index + 1) s.events)

-- The calls that begin in these lines are needed, the refused one among them. From the states with
-- which the window begins, no order explains their events up to its reply. Each other call changes
-- nothing, in whatever state it is made.
pub record AreNeededLines (s : Service) (begin index refused : ℕ) (lines : List ℕ) : Type 0 where
  pub kept : ℕ → Bool
  pub needed : AreNeeded (StepOf s) (news s) (take begin s.events) (events_from s begin index) kept
  pub is_kept : kept refused ≡ true
  pub begin_in : lines ≡ lines_begun s.begins (events_of kept (events_from s begin index))

-- What is reported of the reply in the event of this index of the service, which no order explains:
-- its words; the line and the text of the command of its call; the line in which the window begins,
-- with the first event since no call was open, and the lines of the calls that are needed; and each
-- configuration to which what is above it leads.
pub record IsRefusalOf (bytes : List ℕ) (s : Service) (index : ℕ) (reported : Refusal) : Type 0
  where
    pub number : ℕ
    pub ended : StandsAt s.events index (End number)
    pub call : Call
    pub called : slice_get s.calls number ≡ Some call
    pub words : words_of call ≡ Some reported.words.items
    pub begin : ℕ
    pub begun : BeginsIn s number begin
    pub command : IsCommandOf bytes begin reported.call reported.command.items
    pub window : Window Watched
    pub is_window : IsWindowOf (StepOf s) (news s) (take index s.events) window
    pub latest : IsBusyFrom window.begin (take index s.events)
    pub begins : slice_get s.event_lines window.begin ≡ Some reported.window
    pub needed : AreNeededLines s window.begin index number reported.needed.items
    pub configurations : AllZip (IsReported s call window.front.slots.items)
        window.front.configs.items reported.configurations.items

-- a reply is refused in the line that is reported, and this is what is reported of it
pub record IsRefusal (bytes : List ℕ) (services : List Service) (reported : Refusal) : Type 0 where
  pub s : Service
  pub index : ℕ
  pub stops : RefusesAt services reported.reply s index
  pub report : IsRefusalOf bytes s index reported

-- a reply is refused in the good lines of the text, and this is what is reported of it
abbrev pub RefusesIn : List ℕ → Refusal → Type 0
RefusesIn text reported =
    (count : ℕ) × (log : Log) × (rest : List ℕ) × HasGood text count log rest
    × IsRefusal text log.services reported

-- none is refused in them
abbrev pub RefusesNoneIn : List ℕ → Type 0
RefusesNoneIn text =
    (count : ℕ) × (log : Log) × (rest : List ℕ) × HasGood text count log rest
    × All NoneRefused log.services

-- the first lines of a text, so many, or all, if it has fewer
unfoldable pub first_lines : ℕ → List ℕ → List ℕ
first_lines zero bytes = []
first_lines (suc count) [] = []
first_lines (suc count) (b ∷ bytes) =
    b ∷ (if b == 10 then first_lines count bytes else first_lines (suc count) bytes)

-- By all replies of the log one is refused. The line is the first one down to which one is. What is
-- reported is by the replies that stand in the lines down to it: a call that is answered below it
-- may have any reply.
pub record IsFirstRefused (bytes : List ℕ) (reported : Refusal) : Type 0 where
  pub whole : (other : Refusal) × RefusesIn bytes other
  pub above : ℕ
  pub line : reported.line ≡ above + 1
  pub none : RefusesNoneIn (first_lines above bytes)
  pub refuses : RefusesIn (first_lines reported.line bytes) reported

-- where the log ends after its good lines, something is missing
abbrev pub IsMissing : Log → Expected → Type 0
IsMissing log expected.Service = log.services ≡ []
IsMissing log expected.Reply = log.waits ≢ None
IsMissing log _ = ⊥

-- a line of the form that the text has is expected
abbrev pub IsFormExpected : List ℕ → Expected → Type 0
IsFormExpected text e = (f : LogForm) × (e ≡ expected.Form f) × HasForm text f

-- What is wrong with the text of a line where no call waits for its reply. Where there is no
-- service, it is the line of none. Else it is no line, and one of its form is expected, or it is
-- one that may not come next.
abbrev pub IsWrong : Log → List ℕ → Expected → Type 0
IsWrong log text e =
    ((log.services ≡ []) × (e ≡ expected.Service)
    × ((l : ServiceLine) → IsServiceLine l → service_line l ≢ text))
    ⊎ (((log.services ≢ []) × IsFormExpected text e
    × ((l : Line) → IsLine l → line_text l ≢ text))
    ⊎ ((log.services ≢ []) × ((l : Line) × IsLine l × (line_text l ≡ text) × IsRefused log l e)))

-- below a call alone no reply stands
abbrev pub LacksReply : List ℕ → Type 0
LacksReply text =
    (words : List ℕ) (r : SeenReply) → Says words r → text ≢ codes "= " ++ words

-- a carriage return stands at its end
abbrev pub EndsInReturn : List ℕ → Type 0
EndsInReturn text = (front : List ℕ) × (text ≡ front ++ 13 ∷ [])

-- what is wrong with the text of a line that is no note
abbrev pub IsBadText : Log → List ℕ → Expected → Type 0
IsBadText log text e =
    (EndsInReturn text × (e ≡ expected.NoCarriageReturn))
    ⊎ (((¬ (EndsInReturn text)) × (log.waits ≢ None) × LacksReply text × (e ≡ expected.Reply))
    ⊎ ((¬ (EndsInReturn text)) × (log.waits ≡ None) × IsWrong log text e))

-- What is wrong where the good lines end: the log ends, and something is missing; its last line has
-- no newline; or the next line is not what is expected.
abbrev pub IsBad : Log → List ℕ → Expected → Type 0
IsBad log rest e =
    ((rest ≡ []) × IsMissing log e)
    ⊎ (((rest ≢ []) × HasNo 10 rest × (e ≡ expected.Newline))
    ⊎ ((text : List ℕ) × (after : List ℕ) × HasNo 10 text × (rest ≡ text ++ 10 ∷ after)
    × (¬ (IsTrue (is_note text))) × IsBadText log text e))

-- how many calls were read, of which a weak listing is one
abbrev pub calls_in : Log → ℕ
calls_in log = sum_by (λ (s : Service). length s.commands) log.services

-- how many services there are, of which one that began anew is one
abbrev pub services_in : List Service → ℕ
services_in services =
    distinct_count eqb (map (λ (s : Service). s.line.number) services)

-- The log may be judged so.
-- Conforms: all its lines are good, no call waits for its reply, there is a service, and of each an
-- order of the calls explains what was seen.
-- Refused: what is seen of a service in the lines down to this one is not explained; what is seen
-- of each in the lines above it is, or passes a bound.
-- ManyConfigs, ManyOpen: what is seen of all services is explained above this line, which passes a
-- bound; in the good lines no reply is refused.
-- BadLine: what is seen of all services in the good lines is explained, and the line after them is
-- not what is expected there.
unfoldable pub Judged : List ℕ → Verdict → Type 0
Judged bytes (verdict.Conforms n m) =
    (count : ℕ) × (log : Log) × HasGood bytes count log [] × (log.waits ≡ None)
    × All IsSeenRightly log.services × (n ≡ calls_in log) × (m ≡ services_in log.services) × (0 < m)
Judged bytes (verdict.Refused reported) = IsFirstRefused bytes reported
Judged bytes (verdict.ManyConfigs k) =
    (count : ℕ) × (log : Log) × (rest : List ℕ) × HasGood bytes count log rest
    × ((s : Service) × (index : ℕ) × StopsAt log.services k s index stop.ManyConfigs)
Judged bytes (verdict.ManyOpen k) =
    (count : ℕ) × (log : Log) × (rest : List ℕ) × HasGood bytes count log rest
    × ((s : Service) × (index : ℕ) × StopsAt log.services k s index stop.ManyOpen)
Judged bytes (verdict.BadLine k e) =
    (count : ℕ) × (log : Log) × (rest : List ℕ) × HasGood bytes count log rest
    × All IsSeenRightly log.services × IsBad log rest e × (k ≡ count + 1)
