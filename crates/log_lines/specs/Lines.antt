-- The lines of logs.
use Rattle.std.specs.Prelude.{◌≡◌, ◌≢◌, ◌==◌, ◌&&◌, ℕ, ◌<◌, ◌≤◌, ◌^◌, Bool, true, IsTrue, List, [], ◌∷◌, ◌++◌, Option, Some, None, codes, get_or, length}
use Rattle.std.specs.Char.{is_ascii_alphanumeric}
use Rattle.std.specs.Fmt.{decimal}
use Rattle.service_descriptions.specs.declared.replay.lines.line.ServiceLine.{ServiceLine}
use Rattle.service_descriptions.specs.Script.{IsServiceLine, service_line}
use Rattle.log_lines.specs.declared.line.LogLine.{LogLine}
use Rattle.log_lines.specs.declared.line.LogLine.TheVariants as spelled
use Rattle.log_lines.specs.Commands.{Begun, HasBegun, HasText, NamedCommand, begun_in, begun_text, command_text, named}
use Rattle.log_lines.specs.States.{HasState, State, state_seen, state_text}

-- whether a line is a note: it is empty, or begins with a number sign
abbrev pub is_note : List ℕ → Bool
is_note [] = true
is_note (first ∷ others) = first == 35

-- a letter or a digit
abbrev pub IsNameByte : ℕ → Type 0
IsNameByte byte = IsTrue (is_ascii_alphanumeric byte)

-- whether all are letters and digits
abbrev pub are_letters : List ℕ → Bool
are_letters [] = true
are_letters (byte ∷ bytes) = is_ascii_alphanumeric byte && are_letters bytes

-- the name of a caller: one to sixteen letters and digits
pub record IsCaller (name : List ℕ) : Type 0 where
  pub letters : IsTrue (are_letters name)
  pub some : 0 < length name
  pub few : length name ≤ 16

-- the text begins with these letters and digits, and this follows them
pub record Comes (text front back : List ℕ) : Type 0 where
  pub whole : text ≡ front ++ back
  pub letters : IsTrue (are_letters front)
  pub ends : ¬ (IsNameByte (get_or back 0 0))

-- the byte with which it begins
abbrev pub mark : List ℕ → ℕ
mark bytes = get_or bytes 0 0

-- the number of a service before a call on it
abbrev pub number_text : ℕ → List ℕ
number_text number = decimal number ++ codes ": "

-- what stands before a call: nothing, or the number of its service
abbrev pub name_text : Option ℕ → List ℕ
name_text None = []
name_text (Some number) = number_text number

-- there is none, or it is a number of 64 bits
abbrev pub HasNumber : Option ℕ → Type 0
HasNumber None = Unit {0}
HasNumber (Some number) = number < 2 ^ 64

-- the begin of a call of this caller
abbrev pub begin_text : List ℕ → Begun → List ℕ
begin_text caller begun = caller ++ (codes "> " ++ begun_text begun)

-- what is given of a service
abbrev pub given_text : State → List ℕ
given_text s = codes "state " ++ state_text s

-- A line that says something.
-- service: a service is there
-- call: a call alone, on the service of a number or on the only one
-- reply: the words of its reply
-- begin: a call of a caller begins
-- end: it ends, with the words of its reply
-- crash: the caller died
-- given: what is there of a service that was in use
pub data Line : Type 0 where
  service : ServiceLine → Line
  call : Option ℕ → NamedCommand → Line
  reply : (words : List ℕ) → Line
  begin : Option ℕ → (caller : List ℕ) → Begun → Line
  end : (caller words : List ℕ) → Line
  crash : (caller : List ℕ) → Line
  given : Option ℕ → State → Line

-- its text
abbrev pub line_text : Line → List ℕ
line_text (service line) = service_line line
line_text (call number command) = name_text number ++ command_text command
line_text (reply words) = codes "= " ++ words
line_text (begin number caller begun) = name_text number ++ begin_text caller begun
line_text (end caller words) = caller ++ (codes "< " ++ words)
line_text (crash caller) = caller ++ codes "!"
line_text (given number s) = name_text number ++ given_text s

-- its parts have texts
abbrev pub IsLine : Line → Type 0
IsLine (service line) = IsServiceLine line
IsLine (call number command) = HasNumber number × HasText command
IsLine (reply words) = Unit {0}
IsLine (begin number caller begun) = HasNumber number × IsCaller caller × HasBegun begun
IsLine (end caller words) = IsCaller caller
IsLine (crash caller) = IsCaller caller
IsLine (given number s) = HasNumber number × HasState s

-- the line that was read
abbrev pub line_seen : LogLine → Line
line_seen (spelled.Service line) = service line
line_seen (spelled.Call number command) = call number (named command)
line_seen (spelled.Reply words) = reply words.now
line_seen (spelled.Begin number caller begun) = begin number caller.now (begun_in begun)
line_seen (spelled.End caller words) = end caller.now words.now
line_seen (spelled.Crash caller) = crash caller.now
line_seen (spelled.State number s) = given number (state_seen s)

-- the line is one on a service, with this number, and this text after it
abbrev pub IsLineOf : Option ℕ → List ℕ → Line → Type 0
IsLineOf number rest line = IsLine line × (line_text line ≡ name_text number ++ rest)

-- the text is none of a call, alone or begun, nor of what is given of a service
pub record HasNone (text : List ℕ) : Type 0 where
  pub alone : (c : NamedCommand) → HasText c → text ≢ command_text c
  pub begun : (caller : List ℕ) (b : Begun) → IsCaller caller → HasBegun b
      → text ≢ begin_text caller b
  pub given : (s : State) → HasState s → text ≢ given_text s
