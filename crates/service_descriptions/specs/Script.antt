-- What a script is and gives, and what the streams of the program get.
use Rattle.std.specs.Prelude.{◌≡◌, ◌≢◌, ℕ, ◌+◌, ◌^◌, ◌<◌, List, [], ◌∷◌, ◌++◌, codes, Option, Some, None, Result, Ok, Err, ◌⊎◌, length}
use Rattle.service_descriptions.specs.Prelude.{decimal, flat_map, join_with_byte, AllByRecursion, pattern_word, Command, Reply, ScriptError, ServiceLine}
use Rattle.service_descriptions.specs.declared.replay.lines.script.ScriptError.TheVariants as error
use Rattle.service_descriptions.specs.Lines.{line_of, HasLine}
use Rattle.service_descriptions.specs.Replies.{reply_line}
use Rattle.service_descriptions.specs.Steps.{State, ServiceStep, new_state, Run}
use Rattle.std.specs.Io.KnownBytes.{Appends}

-- the words of the first line
abbrev pub service_words : ServiceLine → List (List ℕ)
service_words l =
    codes "service" ∷ pattern_word l.pattern ∷ decimal l.number ∷ decimal l.max_nodes
    ∷ decimal l.first ∷ decimal l.second ∷ []

-- the first line without its newline: its words, with one space between two
abbrev pub service_line : ServiceLine → List ℕ
service_line l = join_with_byte 32 (service_words l)

-- numbers of 64 bits have a text
pub record IsServiceLine (l : ServiceLine) : Type 0 where
  pub number : l.number < 2 ^ 64
  pub max_nodes : l.max_nodes < 2 ^ 64
  pub first : l.first < 2 ^ 64
  pub second : l.second < 2 ^ 64

-- the service that a first line makes
abbrev pub first_state : ServiceLine → State
first_state l =
    new_state (record { pattern = l.pattern; first = l.first; second = l.second }) l.max_nodes
    l.number

-- a first line, and what follows its newline
abbrev pub IsServiceFront : ServiceLine × List ℕ → Type 0
IsServiceFront front = IsServiceLine front.0

-- the text of the line, its newline and what follows it
abbrev pub service_front : ServiceLine × List ℕ → List ℕ
service_front front = service_line front.0 ++ 10 ∷ front.1

-- the line of a command with its newline
abbrev pub command_line : Command → List ℕ
command_line c = line_of c ++ 10 ∷ []

-- Commands were run from a first state to a last one: their lines begin the lines, the rest follows
-- them, and the text has their reply lines.
pub record RanLines (first : State) (lines rest text : List ℕ) (last : State) : Type 0 where
  pub commands : List Command
  pub replies : List Reply
  pub are_commands : AllByRecursion HasLine commands
  pub spelled : lines ≡ flat_map command_line commands ++ rest
  pub run : Run first commands replies last
  pub replied : text ≡ flat_map reply_line replies

-- something is left, and no command's line with its newline begins it
abbrev pub BeginsBadly : List ℕ → Type 0
BeginsBadly rest = (rest ≢ [])
    × ((command : Command) (tail : List ℕ) → HasLine command → rest ≢ line_of command ++ 10 ∷ tail)

-- The lines after the first may end so, run from this state, and give this text: all replies, those
-- to the lines before the bad one, or those to some first lines. The line after n commands has the
-- number n + 2.
abbrev pub LinesEnd : State → List ℕ → Result (Unit {0}) ScriptError → List ℕ → Type 0
LinesEnd first lines (Ok done) text = (last : State) × RanLines first lines [] text last
LinesEnd first lines (Err (error.BadLine k)) text =
    (rest : List ℕ) × (last : State) × (ran : RanLines first lines rest text last)
    × (k ≡ length ran.commands + 2) × BeginsBadly rest
LinesEnd first lines (Err (error.NoMemory why)) text =
    (rest : List ℕ) × (last : State) × RanLines first lines rest text last

-- the script begins with a first line and its newline, and these lines follow
pub record HasService (script : List ℕ) (service : ServiceLine) (lines : List ℕ) : Type 0 where
  pub is_service : IsServiceLine service
  pub spelled : script ≡ service_line service ++ 10 ∷ lines

-- the script may end so before its first command: it has no first line, or memory was refused
abbrev pub EndsAtOnce : List ℕ → Result (Unit {0}) ScriptError → Type 0
EndsAtOnce script (Ok done) = ⊥
EndsAtOnce script (Err (error.BadLine k)) =
    (k ≡ 1) × ((service : ServiceLine) (lines : List ℕ) → ¬ (HasService script service lines))
EndsAtOnce script (Err (error.NoMemory why)) = Unit {0}

-- the script may end so and give this text
abbrev pub Scripted : List ℕ → Result (Unit {0}) ScriptError → List ℕ → Type 0
Scripted script end text =
    (EndsAtOnce script end × (text ≡ []))
    ⊎ ((service : ServiceLine) × (lines : List ℕ) × HasService script service lines
    × LinesEnd (first_state service) lines end text)

-- The first of the lines was run, and its reply line appended; the rest follows it. Where `None` is
-- answered, no command's line begins the lines, and nothing changed.
abbrev pub RanLine : State → List ℕ → List ℕ → Option (List ℕ) → State → List ℕ → Type 0
RanLine old lines before (Some rest) new after =
    (command : Command) × (reply : Reply) × HasLine command × (lines ≡ line_of command ++ 10 ∷ rest)
    × ServiceStep old command reply new × (after ≡ before ++ reply_line reply)
RanLine old lines before None new after =
    ((command : Command) (rest : List ℕ) → HasLine command → lines ≢ line_of command ++ 10 ∷ rest)
    × (new ≡ old) × (after ≡ before)

-- what the errors get at the end of a script
abbrev pub error_text : Result (Unit {0}) ScriptError → List ℕ
error_text (Ok done) = []
error_text (Err (error.BadLine k)) = codes "bad line " ++ decimal k ++ 10 ∷ []
error_text (Err (error.NoMemory why)) = codes "no memory" ++ 10 ∷ []

-- the status at the end of a script
abbrev pub status_of : Result (Unit {0}) ScriptError → ℕ
status_of (Ok done) = 0
status_of (Err (error.BadLine k)) = 1
status_of (Err (error.NoMemory why)) = 2

-- the script ended in one way: that is the status, and the writers got what fits it
pub record Reported (script : List ℕ) (status : ℕ)
    (out_old out_new err_old err_new : Option (List ℕ)) : Type 0 where
  pub end : Result (Unit {0}) ScriptError
  pub text : List ℕ
  pub ended : Scripted script end text
  pub reported : status ≡ status_of end
  pub output : Appends out_old out_new text
  pub errors : Appends err_old err_new (error_text end)
