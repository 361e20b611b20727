-- The calls of a log, by the texts of its lines.
use Rattle.std.specs.Prelude.{◌≡◌, ◌⊎◌, Option, Some, None, ℕ, zero, suc, ◌+◌, ◌<◌, ◌≤◌, List, [], ◌++◌, if◌then◌else◌, codes, get_or, length, map}
use Rattle.std.specs.Option.{option_or}
use Rattle.std.specs.Borrow.{Bor}
use Rattle.line_streams.specs.Spelling.{HasNo}
use Rattle.log_lines.specs.Commands.{Begun, NamedCommand}
use Rattle.log_lines.specs.Lines.{IsLine, Line, is_note, line_text}
use Rattle.log_lines.specs.Lines.Line.{begin, call, crash, end, reply, service}
use Rattle.service_descriptions.specs.declared.replay.lines.line.ServiceLine.{ServiceLine}
use Rattle.history_drawing.specs.declared.calls.LogCall.{LogCall}
use Rattle.history_drawing.specs.declared.timeline.BarEnd.TheVariants.{Answered, Crashed, Open}
use Rattle.history_drawing.specs.declared.timeline.BarEnd.{BarEnd}

-- the texts of lines
abbrev pub texts : List (Bor (List ℕ)) → List (List ℕ)
texts lines = map (λ (line : Bor (List ℕ)). line.now) lines

-- the text of the line of this number; it is empty where there is none
abbrev pub text_at : List (Bor (List ℕ)) → ℕ → List ℕ
text_at lines k = get_or (texts lines) k []

-- the line of this number is this one
abbrev pub Says : List (Bor (List ℕ)) → ℕ → Line → Type 0
Says lines k line = IsLine line × (text_at lines k ≡ line_text line)

-- the text of the last line above this one that is no note; it is empty where there is none
abbrev pub text_above : List (Bor (List ℕ)) → ℕ → List ℕ
text_above lines zero = []
text_above lines (suc k) =
    if is_note (text_at lines k) then text_above lines k else text_at lines k

-- this text, in the line of this number, ends a caller's call so
abbrev pub EndsIn : List ℕ → ℕ → List ℕ → BarEnd → Type 0
EndsIn text k caller (Answered line words) =
    (line ≡ k) × (text ≡ line_text (end caller words.now))
EndsIn text k caller (Crashed line) = (line ≡ k) × (text ≡ line_text (crash caller))
EndsIn text k caller Open = ⊥

-- no line from one on and above another ends a caller's call
abbrev pub NoneEnds : List (Bor (List ℕ)) → List ℕ → ℕ → ℕ → Type 0
NoneEnds lines caller first last =
    (k : ℕ) (e : BarEnd) → first ≤ k → k < last → ¬ (EndsIn (text_at lines k) k caller e)

-- A caller's call ends so in the first line that ends it, from one on and above another; it is open
-- where none does.
abbrev pub EndsFrom : List (Bor (List ℕ)) → List ℕ → ℕ → ℕ → BarEnd → Type 0
EndsFrom lines caller first last e =
    ((e ≡ Open) × NoneEnds lines caller first last)
    ⊎ ((k : ℕ) × (first ≤ k) × (k < last) × EndsIn (text_at lines k) k caller e
    × NoneEnds lines caller first k)

-- what stands behind the first `> ` of a text that has one
abbrev pub IsBehind : List ℕ → List ℕ → Type 0
IsBehind text rest =
    (front other : List ℕ) → HasNo 62 front → text ≡ front ++ (codes "> " ++ other) → rest ≡ other

-- A caller begins the call in this line: it is as the line says, and ends as one above the last
-- line says.
pub record IsBegun (lines : List (Bor (List ℕ))) (k last : ℕ) (seen : LogCall) : Type 0 where
  pub begun : Begun
  pub says : Says lines k (begin seen.service seen.caller.now begun)
  pub text : IsBehind (text_at lines k) seen.command.now
  pub ends : EndsFrom lines seen.caller.now (k + 1) last seen.end

-- The call is alone: this line has its reply, and the last one above that is no note its command.
pub record IsAlone (lines : List (Bor (List ℕ))) (k : ℕ) (seen : LogCall) : Type 0 where
  pub command : NamedCommand
  pub is : IsLine (call seen.service command)
  pub above : text_above lines k ≡ line_text (call seen.service command)
  pub text : seen.command.now ≡ text_above lines k
  pub nobody : seen.caller.now ≡ []
  pub words : Bor (List ℕ)
  pub says : Says lines k (reply words.now)
  pub ends : seen.end ≡ Answered k words

-- the call begins in this line
abbrev pub BeginsIn : List (Bor (List ℕ)) → ℕ → ℕ → LogCall → Type 0
BeginsIn lines k last seen = IsBegun lines k last seen ⊎ IsAlone lines k seen

-- no service is named above this line
abbrev pub NoServiceAbove : List (Bor (List ℕ)) → ℕ → Type 0
NoServiceAbove lines last = (k : ℕ) (s : ServiceLine) → k < last → ¬ (Says lines k (service s))

-- the number that the first line of a service names; none where there is no such line
abbrev pub IsFirstService : List (Bor (List ℕ)) → Option ℕ → Type 0
IsFirstService lines (Some number) =
    (k : ℕ) × (s : ServiceLine) × Says lines k (service s) × (s.number ≡ number)
    × NoServiceAbove lines k
IsFirstService lines None = NoServiceAbove lines (length lines)

-- the call is answered in this line
abbrev pub IsAnsweredIn : ℕ → BarEnd → Type 0
IsAnsweredIn line (Answered last words) = last ≡ line
IsAnsweredIn line _ = ⊥

-- no call that begins in this line is answered in that one
abbrev pub IsElsewhere : List (Bor (List ℕ)) → ℕ → ℕ → ℕ → Type 0
IsElsewhere lines last line k =
    ((seen : LogCall) → ¬ (BeginsIn lines k last seen))
    ⊎ ((seen : LogCall) × BeginsIn lines k last seen × (¬ (IsAnsweredIn line seen.end)))

-- The number of the service of the call, of those that begin in these lines, that is answered in
-- this one: it stands before the call, or is that of the first service. Where no call is answered
-- there, it is that of the first service.
abbrev pub IsServiceOf : List (Bor (List ℕ)) → ℕ → ℕ → ℕ → Option ℕ → Option ℕ → Type 0
IsServiceOf lines from last line first number =
    ((k : ℕ) × (seen : LogCall) × (from ≤ k) × (k < last) × BeginsIn lines k last seen
    × IsAnsweredIn line seen.end × (number ≡ option_or seen.service first))
    ⊎ (((k : ℕ) → from ≤ k → k < last → IsElsewhere lines last line k) × (number ≡ first))
